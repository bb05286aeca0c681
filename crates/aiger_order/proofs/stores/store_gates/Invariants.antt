-- `store_gates` meets its contract. Assumes nothing.
use mathlib.Core.Path.{◌≡◌}
use Prim.Native.Nat.{◌-◌, ◌≤◌}
use lib.Seq.{sets}
use Rattle.text.specs.Writer.{joined}
use Rattle.aiger_order.specs.Private.Steps.{gate_at}
use Rattle.aiger_order.proofs.stores.store_gates.Given as goal

abbrev pub invariant-loop-m : goal.invariant-loop-m
invariant-loop-m l = (l.m ≤ l.m-end) × (l.net ≡ sets l.initial.net l.gates.at (joined (gate_at l.loose l.news l.order) l.m))

abbrev pub decreases-loop-m : goal.decreases-loop-m
decreases-loop-m l = l.m-end - l.m
