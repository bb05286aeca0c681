-- How many strokes an input says, and that seven bytes of it settle its page. Assumes nothing.
use Rattle.std.specs.Prelude.{Option, Some, None}
use mathlib.Core.Path.{◌≡◌, refl, sym, ap, ◌∙◌}
use mathlib.Core.Bool.{Bool, true, false, cond, not, ◌&&◌, ◌||◌}
use mathlib.Core.List.{List}
use Prim.Native.Nat.{ℕ, ◌+◌, ◌≤◌}
use native.Mathlib.Decide.{dec_le}
use native.Mathlib.Omega.{arith}
use borrow.Author.Tests.{eqb-true, eq-eqb, leb-true}
use lib.Dec.{eqb, leb}
use lib.ListN.{length, get_or, take, length-take}
use lib.Seq.{take_all}
use Rattle.text.specs.Numbers.{leading_digits, value_from, is_numeral, read_number}
use Rattle.text.proofs.NumberLaws.{and_both}
use Rattle.buffer_rule.specs.Page.{line_number, strokes_of, strokes_page, rule_text}

numeral_short : (ds : List ℕ) → is_numeral ds ≡ true → length ds ≤ 5
unfolding is_numeral
numeral_short ds h =
    let few = leb (length ds) 5 in
    let lead = eqb (length ds) 1 || not (eqb (get_or ds 0 0) 48) in
    leb-true (length ds) 5 (and_both few lead (and_both (leb 1 (length ds)) (few && lead) h).1).0

-- ---- no number was read at the input's start, or one that ends before the place `end`
module _ (s : List ℕ) where
  pub no_number : read_number s 0 ≡ None → 0 ≡ strokes_of s
  unfolding line_number strokes_of
  no_number e = rw e

  module _ {n end : ℕ} (e : read_number s 0 ≡ Some (n, end)) where
    pub no_line_lem : (get_or s end 0 ≡ 10 → length s ≡ end + 1 → ⊥) → 0 ≡ strokes_of s
    unfolding line_number strokes_of
    no_line_lem h = rw e (by (eqb (get_or s end 0) 10) (eqb (length s) (end + 1)) refl refl)
      where
        by : (a b : Bool) → eqb (get_or s end 0) 10 ≡ a → eqb (length s) (end + 1) ≡ b → 0 ≡ cond (a && b) n 0
        by true true c d = absurd (h (eqb-true (get_or s end 0) 10 c) (eqb-true (length s) (end + 1) d))
        by true false c d = refl
        by false b c d = refl

    pub a-line : get_or s end 0 ≡ 10 → length s ≡ end + 1 → n ≡ strokes_of s
    unfolding line_number strokes_of
    a-line h l = rw (e, eq-eqb (get_or s end 0) 10 h, eq-eqb (length s) (end + 1) l)

    pub end_near : end ≤ 5
    unfolding read_number
    end_near = by (is_numeral (leading_digits s)) refl e
      where
        by : (t : Bool) → is_numeral (leading_digits s) ≡ t
            → cond {A = Option (ℕ × ℕ)} t (Some (value_from 0 (leading_digits s), 0 + length (leading_digits s))) None ≡ Some (n, end) → end ≤ 5
        by true h is =
            let pair : ◌≡◌ {A = ℕ × ℕ} (value_from 0 (leading_digits s), 0 + length (leading_digits s)) (n, end) = cc in
            let same : 0 + length (leading_digits s) ≡ end = ap (λ (p : ℕ × ℕ). p.1) pair in
            omega (arith, numeral_short (leading_digits s) h)
        by false h is = let z : ◌≡◌ {A = ℕ} 0 1 = cc in absurd (omega arith)

-- ---- an input of seven bytes or more is no line of a number, so no more of it need be read
abbrev size : ℕ
size = 7

long : (s : List ℕ) → size ≤ length s → 0 ≡ strokes_of s
long s l = by (read_number s 0) refl
  where
    by : (r : Option (ℕ × ℕ)) → read_number s 0 ≡ r → 0 ≡ strokes_of s
    by (Some (n, end)) e = no_line_lem s e (λ lf last. omega (arith, end_near s e))
    by None e = no_number s e

cut : (s : List ℕ) → strokes_of (take size s) ≡ strokes_of s
cut s = elim (dec_le (length s) size) [
  | yes h ↦ ap strokes_of (take_all size s h)
  | no h ↦ sym (long (take size s) (omega (arith, length-take size s))) ∙ long s (omega arith)
]

-- n bytes of an input were read into a buffer of seven: all of it, or as many as the buffer holds
pub read-page : (buffer s : List ℕ) (n : ℕ) → length buffer ≡ size → take n buffer ≡ take (length buffer) s → strokes_page (strokes_of (take n buffer)) ≡ rule_text s
unfolding rule_text
read-page buffer s n whole d = ap rule_text (d ∙ ap (λ (m : ℕ). take m s) whole) ∙ ap strokes_page (cut s)
