-- The bytes of a formula: what stands at a place of a field, which bytes are operators, what an operand's
-- first byte tells, and how far a name runs. Assumes nothing.
use mathlib.Core.Path.{◌≡◌, refl, ap, sym, subst, ◌∙◌}
use mathlib.Core.Bool.{Bool, true, false, ◌&&◌}
use mathlib.Core.Logic.{◌⊎◌, inl, inr, ⊎_elim}
use mathlib.Core.List.{List, [], ◌∷◌, ◌++◌, Memᴰ}
use Prim.Native.Nat.{ℕ, suc, ◌+◌, ◌≤◌, ◌<◌}
use native.Mathlib.Numerals.{add-one}
use native.Mathlib.Omega.{arith}
use borrow.Author.Tests.{eqb-true, eqb-false, ne_eqb, leb-true, le-leb}
use lib.Dec.{leb, eqb}
use lib.ListN.{length, get_or, take, drop, length-drop}
use lib.Seq.{get_or-drop, drop-drop, drop-cons, drop-append_seam, length-take-le}
use Rattle.text.specs.Quoted.{bytes}
use Rattle.formula.specs.declared.Class.{Class}
use Rattle.formula.specs.declared.Class.TheVariants.{Other, Letter, Digit, Underscore, Operator, Opening, Closing, OpeningSquare, ClosingSquare, Tab, Lf}
use Rattle.formula.specs.declared.Start.{Start}
use Rattle.formula.specs.declared.Start.TheVariants.{Not, Group, Bit, Name, Nothing}
use Rattle.formula.specs.Classes.{pick, class_of, strength_of, is_letter, is_word_class, start_of, in_name, run, name_bytes, is_name}
use Rattle.formula.specs.Claims.{operators, tightest, Order}
use Rattle.formula.proofs.Runs.{run-le}

-- ---- what stands at a place

module _ (s : List ℕ) where
  pub here : (at : ℕ) → at < length s → drop at s ≡ get_or s at 0 ∷ drop (at + 1) s
  here at h = rw (add-one at) (drop-cons s at 0 h)

  pub next-byte : (at : ℕ) (rest : List ℕ) → drop at s ≡ rest → get_or s at 0 ≡ get_or rest 0 0
  next-byte at rest h = let z : at + 0 ≡ at = omega arith in rw (← h, get_or-drop at s 0 0, z)

  pub past-byte : (at b : ℕ) (rest : List ℕ) → drop at s ≡ b ∷ rest → drop (at + 1) s ≡ rest
  past-byte at b rest h = sym (drop-drop 1 at s) ∙ ap (drop 1) h

  pub past : (at : ℕ) (w rest : List ℕ) → drop at s ≡ w ++ rest → drop (at + length w) s ≡ rest
  past at w rest h = sym (drop-drop (length w) at s) ∙ ap (drop (length w)) h ∙ drop-append_seam w rest

  pub within : (at b : ℕ) (rest : List ℕ) → drop at s ≡ b ∷ rest → at < length s
  within at b rest h = omega (arith, length-drop at s, ap length h)

-- ---- operators

Each : (ℕ → Type 0) → List ℕ → Type 0
Each P [] = Unit
Each P (x ∷ xs) = (P x) × (Each P xs)

among : (P : ℕ → Type 0) {b : ℕ} {l : List ℕ} → Each P l → Memᴰ b l → P b
unfolding Each
among P h (Memᴰ.head e) = subst P (sym e) h.0
among P h (Memᴰ.tail m) = among P h.1 m

pub operator_strength : {b : ℕ} → Memᴰ b operators → 0 < strength_of b
unfolding Each strength_of
operator_strength m = among (λ b. 0 < strength_of b) (omega arith, (omega arith, (omega arith, (omega arith, tt)))) m

pub operator_apart : {b : ℕ} → Memᴰ b operators → in_name b ≡ false
unfolding Each class_of is_word_class
operator_apart m = among (λ b. in_name b ≡ false) (refl, (refl, (refl, (refl, tt)))) m

-- a byte is an operator or does not bind
operator_or-none : (b : ℕ) → (Memᴰ b operators) ⊎ (strength_of b ≡ 0)
unfolding strength_of
operator_or-none b = go (eqb b 38) refl (eqb b 94) refl (eqb b 124) refl (eqb b 61) refl
  where
    go : (t1 : Bool) → eqb b 38 ≡ t1 → (t2 : Bool) → eqb b 94 ≡ t2 → (t3 : Bool) → eqb b 124 ≡ t3 → (t4 : Bool) → eqb b 61 ≡ t4
        → (Memᴰ b operators) ⊎ (pick t1 (strength_of 38) (pick t2 (strength_of 94) (pick t3 (strength_of 124) (pick t4 (strength_of 61) 0))) ≡ 0)
    go true e1 t2 e2 t3 e3 t4 e4 = inl (Memᴰ.head (eqb-true b 38 e1))
    go false e1 true e2 t3 e3 t4 e4 = inl (Memᴰ.tail (Memᴰ.head (eqb-true b 94 e2)))
    go false e1 false e2 true e3 t4 e4 = inl (Memᴰ.tail (Memᴰ.tail (Memᴰ.head (eqb-true b 124 e3))))
    go false e1 false e2 false e3 true e4 = inl (Memᴰ.tail (Memᴰ.tail (Memᴰ.tail (Memᴰ.head (eqb-true b 61 e4)))))
    go false e1 false e2 false e3 false e4 = inr refl

pub operator : (b : ℕ) → 0 < strength_of b → Memᴰ b operators
operator b h = ⊎_elim (λ m. m) (λ e. absurd (omega arith)) (operator_or-none b)

pub strength_small : (b : ℕ) → strength_of b < tightest
unfolding Each strength_of
strength_small b =
    ⊎_elim (λ m. among (λ b. strength_of b < tightest) (omega arith, (omega arith, (omega arith, (omega arith, tt)))) m) (λ e. omega arith) (operator_or-none b)

pub order : Order
unfolding strength_of
order =
    record {
      and = omega arith;
      xor = omega arith;
      or = omega arith;
      equals = omega arith;
      others = λ b h. ⊎_elim (λ m. absurd (h m)) (λ e. e) (operator_or-none b);
    }

-- ---- an operand by its first byte

Begins : Start → ℕ → Type 0
Begins Not b = b ≡ 33
Begins Group b = b ≡ 40
Begins Bit b = Memᴰ b (bytes "01")
Begins Name b = is_letter (class_of b) ≡ true
Begins Nothing b = Unit

begins : (b : ℕ) → Begins (start_of b) b
unfolding start_of Begins
begins b = go (eqb b 33) refl (eqb b 40) refl (eqb b 48) refl (eqb b 49) refl (is_letter (class_of b)) refl
  where
    go : (t1 : Bool) → eqb b 33 ≡ t1 → (t2 : Bool) → eqb b 40 ≡ t2 → (t3 : Bool) → eqb b 48 ≡ t3 → (t4 : Bool) → eqb b 49 ≡ t4
        → (t5 : Bool) → is_letter (class_of b) ≡ t5 → Begins (pick t1 Not (pick t2 Group (pick t3 Bit (pick t4 Bit (pick t5 Name Nothing))))) b
    go true e1 t2 e2 t3 e3 t4 e4 t5 e5 = eqb-true b 33 e1
    go false e1 true e2 t3 e3 t4 e4 t5 e5 = eqb-true b 40 e2
    go false e1 false e2 true e3 t4 e4 t5 e5 = Memᴰ.head (eqb-true b 48 e3)
    go false e1 false e2 false e3 true e4 t5 e5 = Memᴰ.tail (Memᴰ.head (eqb-true b 49 e4))
    go false e1 false e2 false e3 false e4 true e5 = e5
    go false e1 false e2 false e3 false e4 false e5 = tt

pub start-not : (b : ℕ) → start_of b ≡ Not → b ≡ 33
unfolding Begins
start-not b e = subst (λ (x : Start). Begins x b) e (begins b)

pub start-group : (b : ℕ) → start_of b ≡ Group → b ≡ 40
unfolding Begins
start-group b e = subst (λ (x : Start). Begins x b) e (begins b)

pub start_bit_lem : (b : ℕ) → start_of b ≡ Bit → Memᴰ b (bytes "01")
unfolding Begins
start_bit_lem b e = subst (λ (x : Start). Begins x b) e (begins b)

pub start-name : (b : ℕ) → start_of b ≡ Name → is_letter (class_of b) ≡ true
unfolding Begins
start-name b e = subst (λ (x : Start). Begins x b) e (begins b)

pub not-starts : (b : ℕ) → b ≡ 33 → start_of b ≡ Not
unfolding start_of
not-starts b e = ap start_of e

pub group-starts : (b : ℕ) → b ≡ 40 → start_of b ≡ Group
unfolding start_of
group-starts b e = ap start_of e

pub bit-starts : {b : ℕ} → Memᴰ b (bytes "01") → start_of b ≡ Bit
unfolding Each start_of
bit-starts m = among (λ b. start_of b ≡ Bit) (refl, (refl, tt)) m

pub bit-not-equals : {b : ℕ} → Memᴰ b (bytes "01") → b ≡ 61 → ⊥
unfolding Each
bit-not-equals m = among (λ b. b ≡ 61 → ⊥) ((λ e. omega arith), ((λ e. omega arith), tt)) m

module _ (b : ℕ) (h : is_letter (class_of b) ≡ true) where
  no_letter : (x : ℕ) → is_letter (class_of x) ≡ false → eqb b x ≡ false
  no_letter x e =
      ne_eqb b x (λ p. let z : ◌≡◌ {A = Bool} true false = sym h ∙ ap (λ (y : ℕ). is_letter (class_of y)) p ∙ e in let n : ◌≡◌ {A = ℕ} 0 1 = cc in omega arith)

  no_mark : (eqb b 33 ≡ false) × (eqb b 40 ≡ false) × (eqb b 48 ≡ false) × (eqb b 49 ≡ false)
  unfolding class_of is_letter
  no_mark = (no_letter 33 refl, no_letter 40 refl, no_letter 48 refl, no_letter 49 refl)

  pub letter_starts : start_of b ≡ Name
  unfolding start_of
  letter_starts = rw (no_mark.0, no_mark.1, no_mark.2, no_mark.3, h)

  pub not-equals : b ≡ 61 → ⊥
  unfolding class_of is_letter
  not-equals e = eqb-false b 61 (no_letter 61 refl) e

-- ---- names

-- not `==`
pub not_twice : (a b : ℕ) → (a ≡ 61 → b ≡ 61 → ⊥) → (eqb a 61 && eqb b 61) ≡ false
not_twice a b h = go (eqb a 61) refl (eqb b 61) refl
  where
    go : (t : Bool) → eqb a 61 ≡ t → (u : Bool) → eqb b 61 ≡ u → (t && u) ≡ false
    go true e true f = absurd (h (eqb-true a 61 e) (eqb-true b 61 f))
    go true e false f = refl
    go false e u f = refl

pub letter_word : (c : Class) → is_letter c ≡ true → is_word_class c ≡ true
unfolding is_letter is_word_class
letter_word Other e = e
letter_word Letter e = e
letter_word Digit e = refl
letter_word Underscore e = refl
letter_word Operator e = e
letter_word Opening e = e
letter_word Closing e = e
letter_word OpeningSquare e = e
letter_word ClosingSquare e = e
letter_word Tab e = e
letter_word Lf e = e

taken : (l : List ℕ) → name_bytes (take (run l) l) ≡ true
unfolding name_bytes run
taken [] = refl
taken (b ∷ l) = go (in_name b) refl (taken l)
  where
    go : (t : Bool) → in_name b ≡ t → name_bytes (take (run l) l) ≡ true → name_bytes (take (pick t (suc (run l)) 0) (b ∷ l)) ≡ true
    go true e h = rw (e, name_bytes) h
    go false e h = refl

-- the bytes that run on from a letter are a name, where they are not too many
pub run-name : (l : List ℕ) → is_letter (class_of (get_or l 0 0)) ≡ true → 0 < length l → run l ≤ 15 → is_name (take (run l) l) ≡ true
unfolding is_name run
run-name [] e i h = absurd (omega arith)
run-name (b ∷ l) e i h = go (in_name b) (letter_word (class_of b) e) h
  where
    go : (t : Bool) → t ≡ true → pick t (suc (run l)) 0 ≤ 15 → is_name (take (pick t (suc (run l)) 0) (b ∷ l)) ≡ true
    go true q h = rw (e, le-leb (length (take (run l) l)) 14 (omega (arith, length-take-le (run l) l (run-le l))), is_name) (taken l)
    go false q h = let n : ◌≡◌ {A = ℕ} 0 1 = cc in absurd (omega arith)

-- what a name tells of its bytes
pub record NameIs (w : List ℕ) : Type 0 where
  pub some : 0 < length w
  pub short : length w ≤ 15
  pub letter : is_letter (class_of (get_or w 0 0)) ≡ true
  pub all : name_bytes w ≡ true

pub name-is : (w : List ℕ) → is_name w ≡ true → NameIs w
unfolding is_name name_bytes
name-is [] e = let n : ◌≡◌ {A = ℕ} 0 1 = cc in absurd (omega arith)
name-is (b ∷ w) e = go (is_letter (class_of b)) refl (leb (length w) 14) refl (name_bytes w) refl e
  where
    go : (t1 : Bool) → is_letter (class_of b) ≡ t1 → (t2 : Bool) → leb (length w) 14 ≡ t2 → (t3 : Bool) → name_bytes w ≡ t3 → pick t1 (pick t2 t3 false) false ≡ true → NameIs (b ∷ w)
    go true e1 true e2 true e3 h =
        record { some = omega arith; short = omega (arith, leb-true (length w) 14 e2); letter = e1; all = rw (letter_word (class_of b) e1, name_bytes) e3 }
    go true e1 true e2 false e3 h = let n : ◌≡◌ {A = ℕ} 0 1 = cc in absurd (omega arith)
    go true e1 false e2 t3 e3 h = let n : ◌≡◌ {A = ℕ} 0 1 = cc in absurd (omega arith)
    go false e1 t2 e2 t3 e3 h = let n : ◌≡◌ {A = ℕ} 0 1 = cc in absurd (omega arith)

-- a name runs to its end, where no name byte follows
pub runs-out : (w rest : List ℕ) → name_bytes w ≡ true → in_name (get_or rest 0 0) ≡ false → run (w ++ rest) ≡ length w
unfolding name_bytes run
runs-out [] [] e h = refl
runs-out [] (b ∷ rest) e h = rw (h, run)
runs-out (b ∷ w) rest e h = go (in_name b) e (λ q. runs-out w rest q h)
  where
    go : (t : Bool) → pick t (name_bytes w) false ≡ true → (name_bytes w ≡ true → run (w ++ rest) ≡ length w) → pick t (suc (run (w ++ rest))) 0 ≡ suc (length w)
    go true q ih = ap suc (ih q)
    go false q ih = cc
