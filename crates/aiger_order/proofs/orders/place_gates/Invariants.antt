-- `place_gates` meets its contract. Assumes nothing.
use mathlib.Core.Path.{◌≡◌}
use Prim.Native.Nat.{◌-◌}
use lib.ListN.{length}
use Rattle.aiger_order.proofs.OrderLaws.{Going}
use Rattle.aiger_order.proofs.orders.place_gates.Given as goal

abbrev pub invariant-loop-n : goal.invariant-loop-n
invariant-loop-n l = Going l.loose l.news l.order l.low.0 l.n × (length l.news ≡ length l.initial.news) × (length l.order ≡ length l.initial.order)

abbrev pub decreases-loop-n : goal.decreases-loop-n
decreases-loop-n l = l.n-end - l.n
