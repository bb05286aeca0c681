-- `read_index` meets its contract: the digits left of those that start at `at` start at `p`, and go on from
-- `value`, all cut at 16. Assumes nothing.
use mathlib.Core.Path.{◌≡◌}
use mathlib.Core.List.{List}
use Prim.Native.Nat.{ℕ, ◌+◌, ◌-◌, ◌≤◌, min}
use lib.ListN.{length, drop}
use Rattle.text.specs.Numbers.{leading_digits, value_from}
use Rattle.formula.proofs.names.read_index.Given as goal

pub record Reading (s : List ℕ) (at value p : ℕ) : Type 0 where
  pub from : at ≤ p
  pub small : value ≤ 16
  pub count : length (leading_digits (drop at s)) ≡ (p - at) + length (leading_digits (drop p s))
  pub sum : min (value_from 0 (leading_digits (drop at s))) 16 ≡ min (value_from value (leading_digits (drop p s))) 16

abbrev pub invariant-loop-value : goal.invariant-loop-value
invariant-loop-value l = Reading l.s l.at l.value l.end

abbrev pub decreases-loop-value : goal.decreases-loop-value
decreases-loop-value l = length l.s - l.end
