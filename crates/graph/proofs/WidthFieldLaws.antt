-- Laws of a width's field: its bytes are the digits of the width, and reading a number decides it. Assumes nothing.
use Rattle.std.specs.Prelude.{Option, Some, None}
use Prim.Native.Nat.{ℕ, zero, suc, ◌+◌, ◌≤◌, ◌<◌}
use mathlib.Core.Path.{◌≡◌, refl, sym, ap, ◌∙◌}
use mathlib.Core.Bool.{Bool, true, false, not, cond, ◌&&◌, ◌||◌}
use mathlib.Core.List.{List, [], ◌++◌, append-nil}
use native.Mathlib.Omega.{arith}
use native.Mathlib.Decide.{dec_lt}
use lib.Dec.{eqb, leb}
use lib.ListN.{length, get_or, drop, drop_of_length-le}
use Rattle.text.specs.Numbers.{digits, is_digit, leading_digits, value_from, is_numeral, read_number}
use Rattle.text.proofs.NumberLaws.{value-digits}
use Rattle.text.proofs.ReadBack.{reads-digits}
use Rattle.formula.specs.Classes.{pick}
use Rattle.formula.specs.Grammar.{is_index}
use Rattle.formula.proofs.IndexLaws.{each_leading, leading_text, index_digits}
use Rattle.assertion.specs.Graph.{Bytes}
use Rattle.graph.specs.Pieces.{same}
use Rattle.graph.specs.Records.{number_to, width_of}
use Rattle.graph.proofs.SplitLaws.{same_equal, same_self}

-- ---- a number up to m
pub number-most : (m : ℕ) (w : Bytes) → number_to m w ≤ m
unfolding number_to
number-most zero w = omega arith
number-most (suc m) w = by (same w (digits (suc m))) (number-most m w)
  where
    by : (t : Bool) → number_to m w ≤ m → pick t (suc m) (number_to m w) ≤ suc m
    by true h = omega arith
    by false h = omega arith

number_is : (m : ℕ) (w : Bytes) (n : ℕ) → number_to m w ≡ n → 1 ≤ n → (w ≡ digits n) × (n ≤ m)
unfolding number_to
number_is zero w n e h = absurd (omega arith)
number_is (suc m) w n e h = by (same w (digits (suc m))) refl e (number_is m w n)
  where
    by : (t : Bool) → same w (digits (suc m)) ≡ t → pick t (suc m) (number_to m w) ≡ n → (number_to m w ≡ n → 1 ≤ n → (w ≡ digits n) × (n ≤ m)) → (w ≡ digits n) × (n ≤ suc m)
    by true s k ih = (same_equal w (digits (suc m)) s ∙ ap digits k, omega arith)
    by false s k ih = let i = ih k h in (i.0, omega (arith, i.1))

number_digits : (m n : ℕ) → 1 ≤ n → n ≤ m → number_to m (digits n) ≡ n
unfolding number_to
number_digits zero n h l = absurd (omega arith)
number_digits (suc m) n h l = by (same (digits n) (digits (suc m))) refl (number_digits m n h)
  where
    equal : digits n ≡ digits (suc m) → n ≡ suc m
    equal e = sym (value-digits n) ∙ ap (value_from 0) e ∙ value-digits (suc m)

    other : same (digits n) (digits (suc m)) ≡ false → n ≡ suc m → ⊥
    other s e =
        let t : same (digits n) (digits (suc m)) ≡ true = rw (← e) (same_self (digits n)) in
        let z : ◌≡◌ {A = ℕ} 0 1 = cc in
        omega arith

    by : (t : Bool) → same (digits n) (digits (suc m)) ≡ t → (n ≤ m → number_to m (digits n) ≡ n) → pick t (suc m) (number_to m (digits n)) ≡ n
    by true s ih = sym (equal (same_equal (digits n) (digits (suc m)) s))
    by false s ih = let o = other s in ih (omega arith)

-- ---- a width
pub width-most : (w : Bytes) → width_of w ≤ 16
unfolding width_of
width-most w = number-most 16 w

pub width_is : (w : Bytes) (n : ℕ) → width_of w ≡ n → 1 ≤ n → (w ≡ digits n) × (n ≤ 16)
unfolding width_of
width_is w n e h = number_is 16 w n e h

pub width-digits : (n : ℕ) → 1 ≤ n → n ≤ 16 → width_of (digits n) ≡ n
unfolding width_of
width-digits n h l = number_digits 16 n h l

-- ---- the number that a field is read as
numeral_index : (ds : List ℕ) → is_numeral ds ≡ true → is_index ds ≡ true
unfolding is_numeral is_index
numeral_index ds h = by (leb 1 (length ds)) (leb (length ds) 5) (eqb (length ds) 1 || not (eqb (get_or ds 0 0) 48)) h
  where
    by : (a b c : Bool) → (a && (b && c)) ≡ true → (a && c) ≡ true
    by true true c e = e
    by true false c e = let z : ◌≡◌ {A = ℕ} 0 1 = cc in absurd (omega arith)
    by false b c e = e

-- a field that is read to its end is the digits of its number
pair : {a b c d : ℕ} → ◌≡◌ {A = Option (ℕ × ℕ)} (Some (a, b)) (Some (c, d)) → (a ≡ c) × (b ≡ d)
pair {a} {b} {c} {d} k =
    let e : ◌≡◌ {A = ℕ × ℕ} (a, b) (c, d) = cc in
    (ap (λ (x : ℕ × ℕ). x.0) e, ap (λ (x : ℕ × ℕ). x.1) e)

read_whole : (w : Bytes) (v next : ℕ) → read_number w 0 ≡ Some (v, next) → next ≡ length w → w ≡ digits v
unfolding read_number
read_whole w v next e h = by (is_numeral (leading_digits w)) refl e
  where
    by : (t : Bool) → is_numeral (leading_digits w) ≡ t → cond {A = Option (ℕ × ℕ)} t (Some (value_from 0 (leading_digits w), 0 + length (leading_digits w))) None ≡ Some (v, next) → w ≡ digits v
    by false s k = let z : ◌≡◌ {A = ℕ} 0 1 = cc in absurd (omega arith)
    by true s k =
        let both = pair k in
        let value : value_from 0 (leading_digits w) ≡ v = both.0 in
        let end : 0 + length (leading_digits w) ≡ next = both.1 in
        let rest : drop (length (leading_digits w)) w ≡ [] = drop_of_length-le w {i = length (leading_digits w)} (omega arith) in
        let all : w ≡ leading_digits w = leading_text w ∙ ap (λ (l : List ℕ). leading_digits w ++ l) rest ∙ append-nil (leading_digits w) in
        all ∙ sym (index_digits (leading_digits w) (each_leading w) (numeral_index (leading_digits w) s)) ∙ ap digits value

-- nothing follows
no_digit : is_digit 0 ≡ false
unfolding is_digit
no_digit = refl

-- the digits of a width are read as it
read-digits : (w : Bytes) (n : ℕ) → width_of w ≡ n → 1 ≤ n → read_number w 0 ≡ Some (n, length w)
read-digits w n e h =
    let d = width_is w n e h in
    let r : read_number (digits n ++ []) 0 ≡ Some (n, 0 + length (digits n)) = reads-digits n [] [] (omega (arith, d.1)) no_digit in
    let z : 0 + length (digits n) ≡ length (digits n) = omega arith in
    rw d.0 (ap (λ (s : Bytes). read_number s 0) (sym (append-nil (digits n))) ∙ r ∙ ap (λ (x : ℕ). Some (n, x)) z)

module _ (w : Bytes) where
  pub width-none : read_number w 0 ≡ None → 0 ≡ width_of w
  width-none e = by (dec_lt 0 (width_of w))
    where
      by : Dec (0 < width_of w) → 0 ≡ width_of w
      by (yes h) =
          let r = read-digits w (width_of w) refl h in
          let z : ◌≡◌ {A = ℕ} 0 1 = cc in
          absurd (omega arith)
      by (no h) = omega arith

  module _ (v next : ℕ) (e : read_number w 0 ≡ Some (v, next)) where
    -- a width is the number read, up to the end
    read_is : 1 ≤ width_of w → (width_of w ≡ v) × (length w ≡ next)
    read_is h =
        pair (sym (read-digits w (width_of w) refl h) ∙ e)

    pub width-part : (next ≡ length w → ⊥) → 0 ≡ width_of w
    width-part h = by (dec_lt 0 (width_of w))
      where
        by : Dec (0 < width_of w) → 0 ≡ width_of w
        by (yes l) = absurd (h (sym (read_is l).1))
        by (no l) = omega arith

    pub width_over : 16 < v → 0 ≡ width_of w
    width_over h = by (dec_lt 0 (width_of w))
      where
        by : Dec (0 < width_of w) → 0 ≡ width_of w
        by (yes l) = absurd (omega (arith, h, (read_is l).0, width-most w))
        by (no l) = omega arith

    pub width_read : next ≡ length w → v ≤ 16 → v ≡ width_of w
    width_read h l = by (dec_lt 0 v)
      where
        by : Dec (0 < v) → v ≡ width_of w
        by (yes p) = sym (ap width_of (read_whole w v next e h) ∙ width-digits v p l)
        by (no p) = none (dec_lt 0 (width_of w))
          where
            none : Dec (0 < width_of w) → v ≡ width_of w
            none (yes q) = absurd (omega (arith, p, q, (read_is q).0))
            none (no q) = omega arith
