-- Laws of the pieces of a text, for the code that goes by places. Assumes nothing.
use Rattle.std.specs.Prelude.{nat_eq, ◌&&◌}
use lib.Pointwise.{pointwise}
use Prim.Native.Nat.{ℕ, zero, suc, ◌+◌, ◌-◌, ◌≤◌, ◌<◌, min}
use mathlib.Core.Path.{◌≡◌, refl, sym, ap, ◌∙◌}
use mathlib.Core.Bool.{Bool, true, false}
use mathlib.Core.List.{List, [], ◌∷◌}
use native.Mathlib.Nat.{add-zero, add-suc, suc-add}
use native.Mathlib.Numerals.{add-one}
use native.Mathlib.Omega.{arith}
use native.Mathlib.Decide.{dec_lt}
use borrow.Author.Tests.{eq-eqb, ne_eqb}
use lib.Dec.{eqb}
use lib.ListN.{length, get_or, take, drop, length-drop, length-take, drop_of_length-le}
use lib.Seq.{drop-cons, drop-drop, take_all, take-take, take-nil}
use Rattle.assertion.specs.Graph.{Bytes}
use Rattle.graph.specs.Pieces.{onto, split, up_to, end_at, piece_at, same}

-- ---- the end of a piece

pub end_here : (b : ℕ) (s : Bytes) (p : ℕ) → p < length s → get_or s p 0 ≡ b → end_at b s p ≡ p
unfolding end_at up_to
end_here b s p h e = rw (drop-cons s p 0 h, eq-eqb (get_or s p 0) b e, up_to) (add-zero p)

pub end_later : (b : ℕ) (s : Bytes) (p : ℕ) → p < length s → (get_or s p 0 ≡ b → ⊥) → end_at b s p ≡ end_at b s (p + 1)
unfolding end_at up_to
end_later b s p h e = rw (drop-cons s p 0 h, ne_eqb (get_or s p 0) b e, up_to, add-one) (add-suc p _ ∙ sym (suc-add p _))

pub end_end : (b : ℕ) (s : Bytes) (p : ℕ) → length s ≤ p → end_at b s p ≡ p
unfolding end_at up_to
end_end b s p h = rw (drop_of_length-le s h) (add-zero p)

-- a piece by the place of its end
pub piece_take : (b : ℕ) (s : Bytes) (p e : ℕ) → e ≡ end_at b s p → piece_at b s p ≡ take (e - p) (drop p s)
unfolding end_at piece_at
piece_take b s p e h = let n : up_to b (drop p s) ≡ e - p = omega arith in rw n

pub piece_least : (b : ℕ) (s : Bytes) (at : ℕ) {p : ℕ} → p ≡ min at (length s) → piece_at b s p ≡ piece_at b s at
unfolding piece_at
piece_least b s at {p} h = ap (λ (l : Bytes). take (up_to b l) l) (by (dec_lt (length s) at))
  where
    by : Dec (length s < at) → drop p s ≡ drop at s
    by (yes l) = drop_of_length-le s (omega arith) ∙ sym (drop_of_length-le s (omega arith))
    by (no l) = let e : p ≡ at = omega arith in rw e

-- ---- the first piece, and the rest

cut : (b : ℕ) (s : Bytes) → up_to b s < length s → split b s ≡ take (up_to b s) s ∷ split b (drop (suc (up_to b s)) s)
unfolding up_to split onto
cut b [] h = absurd (omega arith)
cut b (c ∷ s) h = go (cut b s) (eqb c b) refl h
  where
    go : (up_to b s < length s → split b s ≡ take (up_to b s) s ∷ split b (drop (suc (up_to b s)) s)) → (t : Bool) → eqb c b ≡ t → up_to b (c ∷ s) < suc (length s) → split b (c ∷ s) ≡ take (up_to b (c ∷ s)) (c ∷ s) ∷ split b (drop (suc (up_to b (c ∷ s))) (c ∷ s))
    go ih true e l = rw (split, up_to, e)
    go ih false e l =
        let u : up_to b (c ∷ s) ≡ suc (up_to b s) = rw (up_to, e) in
        rw (u, split, e, ih (omega arith))

last : (b : ℕ) (s : Bytes) → length s ≤ up_to b s → split b s ≡ s ∷ []
unfolding up_to split onto
last b [] h = refl
last b (c ∷ s) h = go (last b s) (eqb c b) refl h
  where
    go : (length s ≤ up_to b s → split b s ≡ s ∷ []) → (t : Bool) → eqb c b ≡ t → suc (length s) ≤ up_to b (c ∷ s) → split b (c ∷ s) ≡ (c ∷ s) ∷ []
    go ih true e l = let u : up_to b (c ∷ s) ≡ 0 = rw (up_to, e) in absurd (omega arith)
    go ih false e l =
        let u : up_to b (c ∷ s) ≡ suc (up_to b s) = rw (up_to, e) in
        rw (split, e, ih (omega arith))

pub split-cut : (b : ℕ) (s : Bytes) (p e : ℕ) → e ≡ end_at b s p → e < length s → split b (drop p s) ≡ piece_at b s p ∷ split b (drop (e + 1) s)
unfolding end_at piece_at
split-cut b s p e h l =
    let n : p + suc (up_to b (drop p s)) ≡ e + 1 = omega arith in
    cut b (drop p s) (omega (arith, length-drop p s)) ∙ rw (drop-drop (suc (up_to b (drop p s))) p s, n)

pub split-last : (b : ℕ) (s : Bytes) (p e : ℕ) → e ≡ end_at b s p → length s ≤ e → split b (drop p s) ≡ drop p s ∷ []
unfolding end_at
split-last b s p e h l = last b (drop p s) (omega (arith, length-drop p s))

-- the last piece
pub piece_last : (b : ℕ) (s : Bytes) (p e : ℕ) → e ≡ end_at b s p → length s ≤ e → piece_at b s p ≡ drop p s
piece_last b s p e h l = piece_take b s p e h ∙ take_all (e - p) (drop p s) (omega (arith, length-drop p s))

pub split_end : (b : ℕ) (s : Bytes) (p e : ℕ) → e ≡ end_at b s p → length s ≤ e → split b (drop p s) ≡ piece_at b s p ∷ []
split_end b s p e h l = split-last b s p e h l ∙ rw (piece_last b s p e h l)

-- ---- equal bytes
pub same_is : (a b : Bytes) → pointwise nat_eq a b ≡ same a b
unfolding same
same_is [] [] = refl
same_is [] (d ∷ b) = refl
same_is (c ∷ a) [] = refl
same_is (c ∷ a) (d ∷ b) = go (eqb c d) (same_is a b)
  where
    go : (t : Bool) → pointwise nat_eq a b ≡ same a b → (t && pointwise nat_eq a b) ≡ elim t [ true ↦ same a b | false ↦ false ]
    go true h = h
    go false h = refl

-- with the bytes c of a literal
pub same_told : (a b : Bytes) {c : Bytes} {r t : Bool} → r ≡ pointwise nat_eq a b → b ≡ c → r ≡ t → same a c ≡ t
same_told a b e g f = sym (ap (same a) g) ∙ sym (same_is a b) ∙ sym e ∙ f

-- the rest of a list, as a part of it
pub part-rest : (s : Bytes) (p : ℕ) → p ≤ length s → take (length s - p) (drop p s) ≡ drop p s
part-rest s p h = take_all (length s - p) (drop p s) (omega (arith, length-drop p s))

-- there is always a piece
pub split-some : (b : ℕ) (s : Bytes) → split b s ≡ [] → ⊥
unfolding split onto
split-some b [] h = let z : ◌≡◌ {A = ℕ} 0 1 = cc in omega arith
split-some b (c ∷ s) h = go (eqb c b) (split b s) h
  where
    go : (t : Bool) (l : List Bytes) → ◌≡◌ {A = List Bytes} (elim t [ true ↦ [] ∷ l | false ↦ onto c l ]) [] → ⊥
    go true l e = let z : ◌≡◌ {A = ℕ} 0 1 = cc in omega arith
    go false [] e = let z : ◌≡◌ {A = ℕ} 0 1 = cc in omega arith
    go false (x ∷ l) e = let z : ◌≡◌ {A = ℕ} 0 1 = cc in omega arith

-- ---- a part of a part

pub drop-take : (p n : ℕ) (l : Bytes) → drop p (take n l) ≡ take (n - p) (drop p l)
drop-take zero n l = let e : n - 0 ≡ n = omega arith in rw e
drop-take (suc p) zero l = let e : 0 - suc p ≡ 0 = omega arith in rw e
drop-take (suc p) (suc n) [] = sym (take-nil (suc n - suc p))
drop-take (suc p) (suc n) (x ∷ l) = let e : suc n - suc p ≡ n - p = omega arith in rw e (drop-take p n l)

pub drop_in : (text line : Bytes) (at p : ℕ) → line ≡ take (length line) (drop at text) → take (length line - p) (drop (at + p) text) ≡ drop p line
drop_in text line at p h = sym (ap (drop p) h ∙ drop-take p (length line) (drop at text) ∙ ap (take (length line - p)) (drop-drop p at text))

pub part_in : (text line : Bytes) (at p n : ℕ) → line ≡ take (length line) (drop at text) → n ≤ length line - p → take n (drop (at + p) text) ≡ take n (drop p line)
part_in text line at p n h l =
    sym (take-take n (length line - p) (drop (at + p) text) l) ∙ ap (take n) (drop_in text line at p h)

pub up_to-drop : (b : ℕ) (s : Bytes) (p : ℕ) → p ≤ up_to b s → up_to b (drop p s) ≡ up_to b s - p
unfolding up_to
up_to-drop b s zero h = omega arith
up_to-drop b [] (suc p) h = absurd (omega arith)
up_to-drop b (c ∷ s) (suc p) h = go (eqb c b) refl (up_to-drop b s p)
  where
    go : (t : Bool) → eqb c b ≡ t → (p ≤ up_to b s → up_to b (drop p s) ≡ up_to b s - p) → up_to b (drop p s) ≡ up_to b (c ∷ s) - suc p
    go true e ih = let u : up_to b (c ∷ s) ≡ 0 = rw (up_to, e) in absurd (omega arith)
    go false e ih = let u : up_to b (c ∷ s) ≡ suc (up_to b s) = rw (up_to, e) in omega (arith, ih (omega arith))

-- the rest of a piece is a piece
pub piece_in : (b : ℕ) (s : Bytes) (at p : ℕ) → p ≤ length (piece_at b s at) → drop p (piece_at b s at) ≡ piece_at b s (at + p)
unfolding piece_at
piece_in b s at p h =
    let u : p ≤ up_to b (drop at s) = omega (arith, length-take (up_to b (drop at s)) (drop at s)) in
    drop-take p (up_to b (drop at s)) (drop at s) ∙ rw (← up_to-drop b (drop at s) p u, drop-drop p at s)
