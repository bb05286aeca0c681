-- `text::read_number` meets its contract: the digits left of those that start at `at` start at `p`, and go on from `value`. Assumes nothing.
use mathlib.Core.Path.{◌≡◌}
use mathlib.Core.List.{List}
use Prim.Native.Nat.{ℕ, ◌+◌, ◌-◌, ◌≤◌, ◌<◌}
use lib.ListN.{length, drop}
use Rattle.text.specs.Numbers.{leading_digits, value_from}
use Rattle.text.proofs.NumberLaws.{tens}
use Rattle.text.proofs.read_number.Given as goal

pub record Reading (s : List ℕ) (at value p : ℕ) : Type 0 where
  pub from : at ≤ p
  pub few : p ≤ at + 5
  pub small : value < tens (p - at)
  pub count : length (leading_digits (drop at s)) ≡ (p - at) + length (leading_digits (drop p s))
  pub sum : value_from 0 (leading_digits (drop at s)) ≡ value_from value (leading_digits (drop p s))

abbrev pub invariant-loop-at : goal.invariant-loop-at
invariant-loop-at l = Reading l.s l.at l.value l.p

abbrev pub decreases-loop-at : goal.decreases-loop-at
decreases-loop-at l = l.at + 6 - l.p
