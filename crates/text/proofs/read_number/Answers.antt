-- `text::read_number` meets its contract: the digits left of those that start at `at` start at `p`, and go on from `value`. Assumes nothing.
use mathlib.Core.Path.{◌≡◌, refl, sym, ap, ◌∙◌}
use mathlib.Core.List.{List}
use mathlib.Core.Bool.{Bool, true, false, cond, not, ◌&&◌, ◌||◌}
use Prim.Native.Nat.{ℕ, suc, ◌+◌, ◌-◌, ◌*◌, ◌≤◌, ◌<◌}
use native.Mathlib.Omega.{arith}
use native.Mathlib.Decide.{dec_lt}
use borrow.Author.Tests.{le-leb, lt-leb, not-true, not-false}
use lib.Dec.{leb, eqb}
use Rattle.std.specs.Prelude.{Option, Some, None}
use lib.ListN.{length, get_or, drop}
use Rattle.text.specs.Numbers.{is_digit, leading_digits, value_from, is_numeral, read_number}
use Rattle.text.proofs.NumberLaws.{tens_le, tens_grow, digit_range, digit-inside, leading_stop, leading_step, value_stop, value_step}
use Rattle.text.proofs.ReadBack.{reads-back}
use Rattle.text.proofs.read_number.Invariants.{Reading}
use Rattle.text.proofs.read_number.Goals as goal

begin : (s : List ℕ) (at : ℕ) → Reading s at 0 at
begin s at =
    let z : at - at ≡ 0 = omega arith in
    record { from = omega arith; few = omega arith; small = rw z (omega arith); count = omega arith; sum = refl }

-- one digit more
go_on : {s : List ℕ} {at value p : ℕ} → Reading s at value p → is_digit (get_or s p 0) ≡ true → p - at < 5 → Reading s at (value * 10 + (get_or s p 0 - 48)) (p + 1)
go_on {s} {at} {value} {p} r h few =
    let b = digit_range (get_or s p 0) h in
    let e = leading_step s p h in
    let z : p + 1 - at ≡ suc (p - at) = omega (arith, r.from) in
    record {
      from = omega (arith, r.from);
      few = omega arith;
      small = rw z (tens_grow (p - at) value (get_or s p 0 - 48) r.small (omega arith));
      count = omega (arith, r.count, r.from, ap length e);
      sum = r.sum ∙ ap (value_from value) e ∙ value_step value (get_or s p 0) _;
    }

value-small : {s : List ℕ} {at value p : ℕ} → Reading s at value p → value < 100000
value-small {s} {at} {value} {p} r = omega (arith, tens_le (p - at) 5 (omega (arith, r.few)), r.small)

-- a sixth digit
too_many : {s : List ℕ} {at value p : ℕ} → Reading s at value p → is_digit (get_or s p 0) ≡ true → 5 ≤ p - at → None ≡ read_number s at
unfolding read_number is_numeral
too_many {s} {at} {value} {p} r h few =
    let n : 5 < length (leading_digits (drop at s)) = omega (arith, r.count, ap length (leading_step s p h)) in
    rw (le-leb 1 (length (leading_digits (drop at s))) (omega arith), lt-leb (length (leading_digits (drop at s))) 5 n)

lead : (s : List ℕ) (at : ℕ) → 0 < length (leading_digits (drop at s)) → get_or (leading_digits (drop at s)) 0 0 ≡ get_or s at 0
lead s at h = go (is_digit (get_or s at 0)) refl
  where
    go : (t : Bool) → is_digit (get_or s at 0) ≡ t → get_or (leading_digits (drop at s)) 0 0 ≡ get_or s at 0
    go true e = rw (leading_step s at e)
    go false e = absurd (omega (arith, ap length (leading_stop s at e)))

-- no digit more: what `numeral` answers of the first byte, the count and the value
ended : {s : List ℕ} {at value p first : ℕ} {answer : Option (ℕ × ℕ)} → Reading s at value p → is_digit (get_or s p 0) ≡ false → first ≡ get_or s at 0 → answer ≡ cond (leb 1 (p - at) && (eqb (p - at) 1 || not (eqb first 48))) (Some (value, p)) None → answer ≡ read_number s at
unfolding read_number is_numeral
ended {s} {at} {value} {p} r h f a =
    let none = leading_stop s p h in
    let count : length (leading_digits (drop at s)) ≡ p - at = omega (arith, r.count, ap length none) in
    let sum : value_from 0 (leading_digits (drop at s)) ≡ value = r.sum ∙ ap (value_from value) none ∙ value_stop value in
    let next : at + (p - at) ≡ p = omega (arith, r.from) in
    elim (dec_lt 0 (p - at)) [
      | yes l ↦ rw (a, f, count, lead s at (omega arith), sum, le-leb (p - at) 5 (omega (arith, r.few)), next)
      | no l ↦ let z : p - at ≡ 0 = omega arith in rw (a, count, z)
    ]

seen : {b d : ℕ} {r t : Bool} → b ≡ d → r ≡ is_digit b → r ≡ t → is_digit d ≡ t
seen e f g = sym (ap is_digit e) ∙ sym f ∙ g

pub loop-at-init : goal.loop-at-init
loop-at-init c = begin _ _

pub overflow_sub-p : goal.overflow_sub-p
overflow_sub-p c = omega (arith, c.loop-at.invariant.from)

pub returns-then-not-is_digit : goal.returns-then-not-is_digit
returns-then-not-is_digit c =
    let l = c.loop-at in
    let stop = seen c.byte_at-b.ensures c.is_digit.ensures (not-true _ c.if-not-is_digit.true-raw) in
    record { value = ended l.invariant stop c.byte_at.ensures c.numeral.ensures; written = reads-back }

pub overflow_sub-p-in-loop-at : goal.overflow_sub-p-in-loop-at
overflow_sub-p-in-loop-at c = omega (arith, c.loop-at.invariant.from)

pub returns-then-p-at-ge5 : goal.returns-then-p-at-ge5
returns-then-p-at-ge5 c = record { value = too_many c.loop-at.invariant (seen c.byte_at-b.ensures c.is_digit.ensures (not-false _ c.if-not-is_digit.false-raw)) (omega arith); written = reads-back }

pub overflow_mul-value : goal.overflow_mul-value
overflow_mul-value c = omega (arith, value-small c.loop-at.invariant)

pub overflow_sub-value : goal.overflow_sub-value
overflow_sub-value c = (digit_range _ (sym c.is_digit.ensures ∙ not-false _ c.if-not-is_digit.false-raw)).0

pub overflow_cast-value : goal.overflow_cast-value
overflow_cast-value c = omega (arith, digit_range _ (sym c.is_digit.ensures ∙ not-false _ c.if-not-is_digit.false-raw))

pub overflow_add-value : goal.overflow_add-value
overflow_add-value c = omega (arith, digit_range _ (sym c.is_digit.ensures ∙ not-false _ c.if-not-is_digit.false-raw), value-small c.loop-at.invariant)

pub overflow_add-p : goal.overflow_add-p
overflow_add-p c = omega (arith, digit-inside c.args.s.now c.loop-at.p (seen c.byte_at-b.ensures c.is_digit.ensures (not-false _ c.if-not-is_digit.false-raw)))

pub loop-at-smaller : goal.loop-at-smaller
loop-at-smaller c = omega (arith, c.loop-at.invariant.few)

pub loop-at-preserved : goal.loop-at-preserved
loop-at-preserved c = rw c.byte_at-b.ensures (go_on c.loop-at.invariant (seen c.byte_at-b.ensures c.is_digit.ensures (not-false _ c.if-not-is_digit.false-raw)) c.if-p-at-ge5.false)
