-- `choose` meets its contract. Assumes nothing.
use mathlib.Core.Path.{◌≡◌}
use Prim.Native.Nat.{◌-◌, ◌≤◌}
use Rattle.gate_order.specs.Placing.{lowest}
use Rattle.aiger_order.specs.Private.Steps.{ready_in}
use Rattle.aiger_order.proofs.orders.choose.Given as goal

abbrev pub invariant-loop-x : goal.invariant-loop-x
invariant-loop-x l = (l.initial.x ≤ l.x) × (l.x ≤ l.end) × (lowest (ready_in l.loose l.news) l.x (l.end - l.x) ≡ lowest (ready_in l.loose l.news) l.initial.x (l.end - l.initial.x))

abbrev pub decreases-loop-x : goal.decreases-loop-x
decreases-loop-x l = l.end - l.x
