-- Laws of texts joined and cut: a text cut at a byte, its pieces joined, and pieces without that byte. Assumes
-- nothing.
use Prim.Native.Nat.{ℕ, suc, ◌+◌}
use mathlib.Core.Path.{◌≡◌, refl, sym, ap, ◌∙◌}
use mathlib.Core.Bool.{Bool, true, false, cond}
use mathlib.Core.List.{List, [], ◌∷◌, ◌++◌}
use native.Mathlib.Omega.{arith}
use borrow.Author.Tests.{eqb-true, eq-eqb}
use lib.Dec.{eqb}
use lib.ListN.{length, length-append}
use Rattle.assertion.specs.Graph.{Bytes}
use Rattle.graph.specs.Pieces.{onto, split, same}
use Rattle.graph.specs.Claims.{breaks}
use Rattle.graph.proofs.PieceLaws.{split-some}

onto-joined : (c : ℕ) (ps qs : List Bytes) → (ps ≡ [] → ⊥) → onto c (ps ++ qs) ≡ onto c ps ++ qs
unfolding onto
onto-joined c [] qs h = absurd (h refl)
onto-joined c (p ∷ ps) qs h = refl

-- cut where two texts meet
pub split-joined : (b : ℕ) (x y : Bytes) → split b (x ++ (b ∷ y)) ≡ split b x ++ split b y
unfolding split
split-joined b [] y = rw (split, eq-eqb b b refl)
split-joined b (c ∷ x) y = by (eqb c b) refl (split-joined b x y)
  where
    by : (t : Bool) → eqb c b ≡ t → split b (x ++ (b ∷ y)) ≡ split b x ++ split b y → split b ((c ∷ x) ++ (b ∷ y)) ≡ split b (c ∷ x) ++ split b y
    by true e ih = rw (split, e, ih)
    by false e ih = rw (split, e, ih) (onto-joined c (split b x) (split b y) (split-some b x))

-- a text without the byte is one piece
pub split-whole : (b : ℕ) (x : Bytes) → ((left right : Bytes) → x ≡ left ++ (b ∷ right) → ⊥) → split b x ≡ x ∷ []
unfolding split onto
split-whole b [] h = refl
split-whole b (c ∷ x) h = by (eqb c b) refl (split-whole b x (λ l r e. h (c ∷ l) r (ap (◌∷◌ c) e)))
  where
    by : (t : Bool) → eqb c b ≡ t → split b x ≡ x ∷ [] → split b (c ∷ x) ≡ (c ∷ x) ∷ []
    by true e ih = absurd (h [] x (ap (λ (d : ℕ). d ∷ x) (eqb-true c b e)))
    by false e ih = rw (split, e, ih)

-- the pieces joined again
joined : ℕ → List Bytes → Bytes
joined b [] = []
joined b (p ∷ []) = p
joined b (p ∷ q ∷ ps) = p ++ (b ∷ joined b (q ∷ ps))

split-join : (b : ℕ) (x : Bytes) → joined b (split b x) ≡ x
unfolding split onto joined
split-join b [] = refl
split-join b (c ∷ x) = by (eqb c b) refl (split b x) (split-some b x) refl (split-join b x)
  where
    onto-join : (p : Bytes) (ps : List Bytes) → joined b (onto c (p ∷ ps)) ≡ c ∷ joined b (p ∷ ps)
    onto-join p [] = refl
    onto-join p (q ∷ ps) = refl

    first : (p : Bytes) (ps : List Bytes) → joined b ([] ∷ (p ∷ ps)) ≡ b ∷ joined b (p ∷ ps)
    first p ps = refl

    by : (t : Bool) → eqb c b ≡ t → (ps : List Bytes) → (ps ≡ [] → ⊥) → split b x ≡ ps → joined b (split b x) ≡ x → joined b (split b (c ∷ x)) ≡ c ∷ x
    by t e [] n k ih = absurd (n refl)
    by true e (p ∷ ps) n k ih = let z : joined b (p ∷ ps) ≡ x = rw k at ih in rw (split, e, k, first p ps, z, eqb-true c b e)
    by false e (p ∷ ps) n k ih = let z : joined b (p ∷ ps) ≡ x = rw k at ih in rw (split, e, k, onto-join p ps, z)

pub two_pieces : (b : ℕ) (x : Bytes) {p q : Bytes} → split b x ≡ p ∷ q ∷ [] → x ≡ p ++ (b ∷ q)
unfolding joined
two_pieces b x {p} {q} e = sym (split-join b x) ∙ ap (joined b) e

-- the first piece, and after it the others
pub first_piece : (b : ℕ) (x : Bytes) {p q : Bytes} {ps : List Bytes} → split b x ≡ p ∷ q ∷ ps → (after : Bytes) × (x ≡ p ++ (b ∷ after))
unfolding joined
first_piece b x {p} {q} {ps} e = (joined b (q ∷ ps), sym (split-join b x) ∙ ap (joined b) e)

pub three_pieces : (b : ℕ) (x : Bytes) {p q s : Bytes} → split b x ≡ p ∷ q ∷ s ∷ [] → x ≡ p ++ (b ∷ (q ++ (b ∷ s)))
unfolding joined
three_pieces b x e = sym (split-join b x) ∙ ap (joined b) e

pub six_pieces : (b : ℕ) (x : Bytes) {k f t m a c : Bytes} → split b x ≡ k ∷ f ∷ t ∷ m ∷ a ∷ c ∷ [] → x ≡ k ++ (b ∷ (f ++ (b ∷ (t ++ (b ∷ (m ++ (b ∷ (a ++ (b ∷ c)))))))))
unfolding joined
six_pieces b x e = sym (split-join b x) ∙ ap (joined b) e

pub one_piece : (b : ℕ) (x : Bytes) {p : Bytes} → split b x ≡ p ∷ [] → x ≡ p
unfolding joined
one_piece b x e = sym (split-join b x) ∙ ap (joined b) e

-- as many pieces as LF, and one more
pub split-breaks : (x : Bytes) → length (split 10 x) ≡ suc (breaks x)
unfolding split onto
split-breaks [] = refl
split-breaks (c ∷ x) = by (eqb c 10) refl (split-breaks x) (split 10 x) refl (split-some 10 x)
  where
    by : (t : Bool) → eqb c 10 ≡ t → length (split 10 x) ≡ suc (breaks x) → (ps : List Bytes) → split 10 x ≡ ps → (ps ≡ [] → ⊥) → length (split 10 (c ∷ x)) ≡ suc (cond t 1 0 + breaks x)
    by t e ih [] k n = absurd (n refl)
    by true e ih (p ∷ ps) k n = let z : suc (length ps) ≡ suc (breaks x) = rw k at ih in let w : length (split 10 (c ∷ x)) ≡ suc (suc (length ps)) = rw (split, e, k) in omega (arith, z, w)
    by false e ih (p ∷ ps) k n = let z : suc (length ps) ≡ suc (breaks x) = rw k at ih in let w : length (split 10 (c ∷ x)) ≡ suc (length ps) = rw (split, e, k) in omega (arith, z, w)

-- the same bytes are equal
pub same_equal : (x y : Bytes) → same x y ≡ true → x ≡ y
unfolding same
same_equal [] [] h = refl
same_equal [] (d ∷ y) h = let z : ◌≡◌ {A = ℕ} 0 1 = cc in absurd (omega arith)
same_equal (c ∷ x) [] h = let z : ◌≡◌ {A = ℕ} 0 1 = cc in absurd (omega arith)
same_equal (c ∷ x) (d ∷ y) h = by (eqb c d) refl h (same_equal x y)
  where
    by : (t : Bool) → eqb c d ≡ t → elim t [ true ↦ same x y | false ↦ false ] ≡ true → (same x y ≡ true → x ≡ y) → c ∷ x ≡ d ∷ y
    by true e k ih = rw (eqb-true c d e, ih k)
    by false e k ih = let z : ◌≡◌ {A = ℕ} 0 1 = cc in absurd (omega arith)

-- and equal bytes are the same
pub same_self : (x : Bytes) → same x x ≡ true
unfolding same
same_self [] = refl
same_self (c ∷ x) = rw (eq-eqb c c refl, same) (same_self x)

-- one piece has no such byte
pub whole-without : (b : ℕ) (x : Bytes) {p : Bytes} → split b x ≡ p ∷ [] → (left right : Bytes) → x ≡ left ++ (b ∷ right) → ⊥
whole-without b x {p} e left right h =
    let w : split b left ++ split b right ≡ p ∷ [] = sym (split-joined b left right) ∙ rw (← h) e in
    some (split b left) (split b right) (split-some b left) (split-some b right) (ap length w)
  where
    some : (ps qs : List Bytes) → (ps ≡ [] → ⊥) → (qs ≡ [] → ⊥) → length (ps ++ qs) ≡ 1 → ⊥
    some [] qs m n k = m refl
    some (p2 ∷ ps) [] m n k = n refl
    some (p2 ∷ ps) (q ∷ qs) m n k = omega (arith, length-append ps (q ∷ qs), k)
