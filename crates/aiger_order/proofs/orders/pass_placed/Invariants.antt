-- `pass_placed` meets its contract. Assumes nothing.
use mathlib.Core.Path.{◌≡◌}
use mathlib.Core.Bool.{true}
use Prim.Native.Nat.{ℕ, ◌-◌, ◌<◌, ◌≤◌}
use Rattle.aiger_order.specs.Private.Steps.{placed_in}
use Rattle.aiger_order.proofs.orders.pass_placed.Given as goal

abbrev pub invariant-loop-x : goal.invariant-loop-x
invariant-loop-x l = (l.initial.x ≤ l.x) × (l.x ≤ l.x-end) × ((v : ℕ) → v < l.x → l.initial.x ≤ v → placed_in l.news v ≡ true)

abbrev pub decreases-loop-x : goal.decreases-loop-x
decreases-loop-x l = l.x-end - l.x
