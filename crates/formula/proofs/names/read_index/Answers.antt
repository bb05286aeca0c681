-- `read_index` meets its contract: the digits left of those that start at `at` start at `p`, and go on from
-- `value`, all cut at 16. Assumes nothing.
use mathlib.Core.Path.{◌≡◌, refl, sym, ap, ◌∙◌}
use mathlib.Core.List.{List}
use mathlib.Core.Bool.{Bool, true, false, not, ◌&&◌, ◌||◌}
use Rattle.std.specs.Prelude.{Some, None}
use Prim.Native.Nat.{ℕ, ◌+◌, ◌-◌, ◌*◌, min}
use native.Mathlib.Omega.{arith}
use native.Mathlib.Decide.{dec_lt}
use lib.Dec.{leb, eqb}
use lib.ListN.{length, get_or, drop}
use Rattle.text.specs.Numbers.{is_digit, leading_digits, value_from}
use Rattle.text.proofs.NumberLaws.{digit-inside, leading_stop, leading_step, value_stop, value_step}
use Rattle.formula.specs.Grammar.{is_index}
use Rattle.formula.specs.Private.Readers.{index_at}
use Rattle.formula.proofs.IndexLaws.{value-cut, leading_first}
use Rattle.formula.proofs.names.read_index.Invariants.{Reading}
use Rattle.formula.proofs.names.read_index.Goals as goal

begin : (s : List ℕ) (at : ℕ) → Reading s at 0 at
begin s at = record { from = omega arith; small = omega arith; count = omega arith; sum = refl }

-- one digit more
go_on : {s : List ℕ} {at value p : ℕ} → Reading s at value p → is_digit (get_or s p 0) ≡ true → Reading s at (min (value * 10 + (get_or s p 0 - 48)) 16) (p + 1)
go_on {s} {at} {value} {p} r h =
    let e = leading_step s p h in
    record {
      from = omega (arith, r.from);
      small = omega arith;
      count = omega (arith, r.count, r.from, ap length e);
      sum = r.sum ∙ ap (λ (l : List ℕ). min (value_from value l) 16) e ∙ ap (λ (x : ℕ). min x 16) (value_step value (get_or s p 0) _) ∙ value-cut _ _;
    }

-- no digit more
module _ {s : List ℕ} {at value p : ℕ} (r : Reading s at value p) (h : is_digit (get_or s p 0) ≡ false) where
  count : length (leading_digits (drop at s)) ≡ p - at
  count = omega (arith, r.count, ap length (leading_stop s p h))

  left : min (value_from 0 (leading_digits (drop at s))) 16 ≡ min value 16
  left = r.sum ∙ ap (λ (l : List ℕ). min (value_from value l) 16) (leading_stop s p h) ∙ ap (λ (x : ℕ). min x 16) (value_stop value)

  sum : min (value_from 0 (leading_digits (drop at s))) 16 ≡ value
  sum = omega (arith, left, r.small)

  next : at + (p - at) ≡ p
  next = omega (arith, r.from)

  module _ {first : ℕ} {formed : Bool} (f : first ≡ get_or s at 0) (a : formed ≡ (leb 1 (p - at) && (eqb (p - at) 1 || not (eqb first 48)))) where
    judged : formed ≡ is_index (leading_digits (drop at s))
    unfolding is_index
    judged =
        elim (dec_lt 0 (p - at)) [
          | yes l ↦ rw (a, f, count, leading_first s at (omega arith))
          | no l ↦ let z : p - at ≡ 0 = omega arith in rw (a, count, z)
        ]

    ended : formed ≡ true → Some (record { value = value; next = p }) ≡ index_at s at
    ended t = rw (sym judged ∙ t, count, sum, next)

    none : formed ≡ false → None ≡ index_at s at
    none t = rw (sym judged ∙ t)

seen : {b d : ℕ} {r t : Bool} → b ≡ d → r ≡ is_digit b → r ≡ t → is_digit d ≡ t
seen e f g = sym (ap is_digit e) ∙ sym f ∙ g

pub loop-value-init : goal.loop-value-init
loop-value-init c = begin _ _

pub overflow_add-end : goal.overflow_add-end
overflow_add-end c = omega (arith, digit-inside c.args.s.now c.loop-value.end (seen c.byte_at.ensures c.is_digit.ensures c.loop-value-test.true))

pub loop-value-smaller : goal.loop-value-smaller
loop-value-smaller c = omega (arith, digit-inside c.args.s.now c.loop-value.end (seen c.byte_at.ensures c.is_digit.ensures c.loop-value-test.true))

pub loop-value-preserved : goal.loop-value-preserved
loop-value-preserved c =
    let digit = seen c.byte_at.ensures c.is_digit.ensures c.loop-value-test.true in
    rw (c.with_digit-value.ensures, c.byte_at-in-loop-value.ensures) (go_on c.loop-value.invariant digit)

pub returns-then-is_index : goal.returns-then-is_index
returns-then-is_index c =
    let stop = seen c.byte_at.ensures c.is_digit.ensures c.loop-value-test.false in
    ended c.loop-value.invariant stop c.byte_at-2.ensures c.is_index.ensures c.if-is_index.true

pub returns-else-is_index : goal.returns-else-is_index
returns-else-is_index c =
    let stop = seen c.byte_at.ensures c.is_digit.ensures c.loop-value-test.false in
    none c.loop-value.invariant stop c.byte_at-2.ensures c.is_index.ensures c.if-is_index.false
