-- The digits of an index: they are those of their number, and a number's digits are an index. Assumes nothing.
use mathlib.Core.Path.{◌≡◌, refl, sym, ap, ◌∙◌}
use mathlib.Core.List.{List, [], ◌∷◌, ◌++◌, append_assoc, append-nil}
use mathlib.Core.Bool.{Bool, true, false, not, ◌||◌}
use Prim.Native.Nat.{ℕ, ◌+◌, ◌-◌, ◌*◌, ◌/◌, ◌%◌, ◌≤◌, ◌<◌, min}
use native.Mathlib.Nat.{zero-add}
use native.Mathlib.Omega.{arith}
use native.Mathlib.Decide.{dec_lt}
use borrow.Author.Tests.{leb-true, le-leb, eqb-false, ne_eqb, not-true}
use lib.Dec.{leb, eqb}
use lib.ListN.{length, get_or, drop}
use Rattle.text.specs.Numbers.{digits, is_digit, leading_digits, value_from}
use Rattle.text.proofs.NumberLaws.{and_both, digits-small, digits_more, digits-some, digits_lead, digit_range, EachDigit, leading_stop, leading_step}
use Rattle.formula.specs.Grammar.{is_index}

-- ---- the digits in front of a list

-- all of them are digits
pub each_leading : (l : List ℕ) → EachDigit (leading_digits l)
unfolding leading_digits EachDigit
each_leading [] = tt
each_leading (b ∷ l) = go (is_digit b) refl (each_leading l)
  where
    go : (t : Bool) → is_digit b ≡ t → EachDigit (leading_digits l) → EachDigit (elim t [ true ↦ b ∷ leading_digits l | false ↦ [] ])
    go true e ih = (e, ih)
    go false e ih = tt

-- and the others stand after them
pub leading_text : (l : List ℕ) → l ≡ leading_digits l ++ drop (length (leading_digits l)) l
unfolding leading_digits
leading_text [] = refl
leading_text (b ∷ l) = go (is_digit b) (leading_text l)
  where
    go : (t : Bool) → l ≡ leading_digits l ++ drop (length (leading_digits l)) l →
        b ∷ l ≡ elim t [ true ↦ b ∷ leading_digits l | false ↦ [] ] ++ drop (length {A = ℕ} (elim t [ true ↦ b ∷ leading_digits l | false ↦ [] ])) (b ∷ l)
    go true ih = ap (λ (x : List ℕ). b ∷ x) ih
    go false ih = refl

pub leading_first : (s : List ℕ) (at : ℕ) → 0 < length (leading_digits (drop at s)) → get_or (leading_digits (drop at s)) 0 0 ≡ get_or s at 0
leading_first s at h = go (is_digit (get_or s at 0)) refl
  where
    go : (t : Bool) → is_digit (get_or s at 0) ≡ t → get_or (leading_digits (drop at s)) 0 0 ≡ get_or s at 0
    go true e = rw (leading_step s at e)
    go false e = absurd (omega (arith, ap length (leading_stop s at e)))

-- digits with none after them
pub leading_append : (ds post : List ℕ) → EachDigit ds → is_digit (get_or post 0 0) ≡ false → leading_digits (ds ++ post) ≡ ds
unfolding leading_digits EachDigit
leading_append [] post e stop = leading_stop post 0 stop
leading_append (d ∷ ds) post e stop = rw (e.0, leading_digits) (ap (λ (l : List ℕ). d ∷ l) (leading_append ds post e.1 stop))

-- ---- an index and its number

digit-more : (v d : ℕ) → 1 ≤ v → is_digit d ≡ true → digits (v * 10 + (d - 48)) ≡ digits v ++ (d ∷ [])
digit-more v d h e =
    let r = digit_range d e in
    let q : (v * 10 + (d - 48)) / 10 ≡ v = omega (arith, r) in
    let m : 48 + (v * 10 + (d - 48)) % 10 ≡ d = omega (arith, r) in
    digits_more (v * 10 + (d - 48)) (omega arith) ∙ rw (q, m)

-- digits that go on from a number other than 0 stand after its own
digits_from : (v : ℕ) (ds : List ℕ) → 1 ≤ v → EachDigit ds → digits (value_from v ds) ≡ digits v ++ ds
unfolding value_from EachDigit
digits_from v [] h e = sym (append-nil (digits v))
digits_from v (d ∷ ds) h e =
    digits_from (v * 10 + (d - 48)) ds (omega arith) e.1 ∙ ap (λ (l : List ℕ). l ++ ds) (digit-more v d h e.0) ∙ append_assoc (digits v) (d ∷ []) ds

digit-one : (d : ℕ) → is_digit d ≡ true → digits (d - 48) ≡ d ∷ []
digit-one d e =
    let r = digit_range d e in
    let m : 48 + (d - 48) % 10 ≡ d = omega (arith, r) in
    digits-small (d - 48) (omega (arith, r)) ∙ ap (λ (x : ℕ). x ∷ []) m

-- a first digit `0` is the only one
pub index_lead : (ds : List ℕ) → is_index ds ≡ true → (0 < length ds) × (1 < length ds → get_or ds 0 0 ≡ 48 → ⊥)
unfolding is_index
index_lead ds h = (leb-true 1 (length ds) both.0, λ more. eqb-false _ _ (not-true _ (other more)))
  where
    both : (leb 1 (length ds) ≡ true) × ((eqb (length ds) 1 || not (eqb (get_or ds 0 0) 48)) ≡ true)
    both = and_both _ _ h

    other : 1 < length ds → not (eqb (get_or ds 0 0) 48) ≡ true
    other more = (rw (ne_eqb (length ds) 1 (λ e. omega arith)) at both).1

pub index_digits : (ds : List ℕ) → EachDigit ds → is_index ds ≡ true → digits (value_from 0 ds) ≡ ds
unfolding value_from EachDigit
index_digits [] e i = absurd (omega (arith, (index_lead [] i).0))
index_digits (d ∷ []) e i = rw zero-add (digit-one d e.0)
index_digits (d ∷ x ∷ ds) e i =
    let r = digit_range d e.0 in
    let n : d ≡ 48 → ⊥ = (index_lead (d ∷ x ∷ ds) i).1 (omega arith) in
    rw zero-add (digits_from (d - 48) (x ∷ ds) (omega (arith, r, n)) e.1 ∙ ap (λ (l : List ℕ). l ++ (x ∷ ds)) (digit-one d e.0))

or_right : (a : Bool) → (a || true) ≡ true
or_right true = refl
or_right false = refl

pub digits_index : (n : ℕ) → is_index (digits n) ≡ true
unfolding is_index
digits_index n = rw (le-leb 1 (length (digits n)) (digits-some n)) (go (dec_lt n 10))
  where
    go : Dec (n < 10) → (eqb (length (digits n)) 1 || not (eqb (get_or (digits n) 0 0) 48)) ≡ true
    go (yes l) = rw (digits-small n l)
    go (no l) = rw (ne_eqb (get_or (digits n) 0 0) 48 (digits_lead n (omega arith))) (or_right (eqb (length (digits n)) 1))

-- ---- a number cut at 16

-- what is cut before a digit more is cut after it
pub value-cut : (v : ℕ) (ds : List ℕ) → min (value_from v ds) 16 ≡ min (value_from (min v 16) ds) 16
unfolding value_from
value-cut v [] = omega arith
value-cut v (d ∷ ds) =
    let e : min (v * 10 + (d - 48)) 16 ≡ min (min v 16 * 10 + (d - 48)) 16 = omega arith in
    value-cut (v * 10 + (d - 48)) ds ∙ ap (λ (x : ℕ). min (value_from x ds) 16) e ∙ sym (value-cut (min v 16 * 10 + (d - 48)) ds)
