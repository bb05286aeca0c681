-- A numeral is the digits of its number, and how the digits at the front of a text part it. Assumes nothing.
use mathlib.Core.Path.{◌≡◌, refl, sym, ap, ◌∙◌}
use mathlib.Core.Bool.{Bool, true, false, not, ◌&&◌, ◌||◌}
use mathlib.Core.List.{List, [], ◌∷◌, ◌++◌, append_assoc, append-nil}
use Prim.Native.Nat.{ℕ, suc, ◌+◌, ◌-◌, ◌*◌, ◌/◌, ◌%◌, ◌≤◌, ◌<◌}
use native.Mathlib.Nat.{zero-add}
use native.Mathlib.Omega.{arith}
use native.Mathlib.Decide.{dec_lt}
use borrow.Author.Tests.{leb-true, eqb-true, eqb-false}
use lib.Dec.{eqb, leb}
use lib.ListN.{length, get_or, drop}
use Rattle.text.specs.Numbers.{digits, is_digit, leading_digits, value_from, is_numeral}
use Rattle.text.proofs.NumberLaws.{digits-small, digits_more, tens, tens_le, tens_grow, digit_range, EachDigit}
use Rattle.netlist.proofs.EachLaws.{both}

-- one digit more
more-digit : (v d : ℕ) → 0 < v → is_digit d ≡ true → digits (v * 10 + (d - 48)) ≡ digits v ++ (d ∷ [])
more-digit v d h e =
    let r = digit_range d e in
    let n = v * 10 + (d - 48) in
    let q : n / 10 ≡ v = omega arith in
    let m : 48 + n % 10 ≡ d = omega arith in
    digits_more n (omega arith) ∙ rw (q, m)

digits_from : (ds : List ℕ) (v : ℕ) → 0 < v → EachDigit ds → digits (value_from v ds) ≡ digits v ++ ds
unfolding value_from EachDigit
digits_from [] v h e = sym (append-nil (digits v))
digits_from (d ∷ ds) v h e =
    let w : 0 < v * 10 + (d - 48) = omega arith in
    digits_from ds (v * 10 + (d - 48)) w e.1 ∙ ap (λ (l : List ℕ). l ++ ds) (more-digit v d h e.0) ∙ append_assoc (digits v) (d ∷ []) ds

-- the number of digits is below a power of ten
value-small : (ds : List ℕ) (k v : ℕ) → v < tens k → EachDigit ds → value_from v ds < tens (length ds + k)
unfolding value_from EachDigit
value-small [] k v h e = rw zero-add h
value-small (d ∷ ds) k v h e =
    let r = digit_range d e.0 in
    let n : length ds + suc k ≡ suc (length ds) + k = omega arith in
    rw n at (value-small ds (suc k) (v * 10 + (d - 48)) (tens_grow k v (d - 48) h (omega arith)) e.1)

or_left : (a b : Bool) → (a || not b) ≡ true → b ≡ true → a ≡ true
or_left true b h e = refl
or_left false true h e = h
or_left false false h e = e

below : {d : ℕ} → 48 ≤ d → (d ≡ 48 → ⊥) → 0 < 0 * 10 + (d - 48)
below {d} h n = elim (dec_lt 48 d) [ yes l ↦ omega arith | no l ↦ absurd (n (omega arith)) ]

-- of which the first is `0` only where it is the only one
numeral : (ds : List ℕ) → EachDigit ds → 1 ≤ length ds → (eqb (length ds) 1 || not (eqb (get_or ds 0 0) 48)) ≡ true → digits (value_from 0 ds) ≡ ds
unfolding value_from EachDigit
numeral [] e l h = absurd (omega arith)
numeral (d ∷ ds) e l h = go (eqb d 48) refl
  where
    alone : (es : List ℕ) → length (d ∷ es) ≡ 1 → digits (value_from (0 * 10 + (d - 48)) es) ≡ d ∷ es
    alone [] n =
        let r = digit_range d e.0 in
        let m : 48 + (0 * 10 + (d - 48)) % 10 ≡ d = omega arith in
        digits-small (0 * 10 + (d - 48)) (omega arith) ∙ rw m
    alone (x ∷ es) n = absurd (omega arith)

    go : (t : Bool) → eqb d 48 ≡ t → digits (value_from (0 * 10 + (d - 48)) ds) ≡ d ∷ ds
    go true z = alone ds (eqb-true (length (d ∷ ds)) 1 (or_left (eqb (length (d ∷ ds)) 1) (eqb d 48) h z))
    go false z =
        let r = digit_range d e.0 in
        let p : 0 < 0 * 10 + (d - 48) = below r.0 (eqb-false d 48 z) in
        let m : 48 + (0 * 10 + (d - 48)) % 10 ≡ d = omega arith in
        let one : digits (0 * 10 + (d - 48)) ≡ d ∷ [] = digits-small (0 * 10 + (d - 48)) (omega arith) ∙ rw m in
        digits_from ds (0 * 10 + (d - 48)) p e.1 ∙ ap (λ (l : List ℕ). l ++ ds) one

-- a numeral is the digits of its number, which has at most five
pub numeral_value : (ds : List ℕ) → EachDigit ds → is_numeral ds ≡ true → (digits (value_from 0 ds) ≡ ds) × (value_from 0 ds < 100000)
unfolding is_numeral
numeral_value ds e h =
    let b1 = both (leb 1 (length ds)) (leb (length ds) 5 && (eqb (length ds) 1 || not (eqb (get_or ds 0 0) 48))) h in
    let b2 = both (leb (length ds) 5) (eqb (length ds) 1 || not (eqb (get_or ds 0 0) 48)) b1.1 in
    (numeral ds e (leb-true 1 (length ds) b1.0) b2.1, few (value-small ds 0 0 (omega arith) e) (tens_le (length ds + 0) 5 (omega (arith, leb-true (length ds) 5 b2.0))))
  where
    few : {v n : ℕ} → v < n → n ≤ 100000 → v < 100000
    few a b = omega arith

-- ---- the digits at the front

pub leading_each : (s : List ℕ) → EachDigit (leading_digits s)
unfolding leading_digits EachDigit
leading_each [] = tt
leading_each (b ∷ s) = go (is_digit b) refl (leading_each s)
  where
    go : (t : Bool) → is_digit b ≡ t → EachDigit (leading_digits s) → EachDigit (elim t [ true ↦ b ∷ leading_digits s | false ↦ [] ])
    go true e ih = (e, ih)
    go false e ih = tt

leading_some : (b : ℕ) (s : List ℕ) → is_digit b ≡ true → leading_digits (b ∷ s) ≡ b ∷ leading_digits s
unfolding leading_digits
leading_some b s h = rw (h, leading_digits)

leading_none : (b : ℕ) (s : List ℕ) → is_digit b ≡ false → leading_digits (b ∷ s) ≡ []
unfolding leading_digits
leading_none b s h = rw (h, leading_digits)

pub leading_split : (s : List ℕ) → s ≡ leading_digits s ++ drop (length (leading_digits s)) s
unfolding leading_digits
leading_split [] = refl
leading_split (b ∷ s) = go (is_digit b) refl (leading_split s)
  where
    go : (t : Bool) → is_digit b ≡ t → s ≡ leading_digits s ++ drop (length (leading_digits s)) s → b ∷ s ≡ leading_digits (b ∷ s) ++ drop (length (leading_digits (b ∷ s))) (b ∷ s)
    go true e ih = rw (leading_some b s e) (ap (λ (l : List ℕ). b ∷ l) ih)
    go false e ih = rw (leading_none b s e)
