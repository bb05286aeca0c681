-- `store_latches` meets its contract. Assumes nothing.
use mathlib.Core.Path.{◌≡◌}
use Prim.Native.Nat.{◌+◌, ◌*◌, ◌-◌, ◌≤◌}
use lib.ListN.{length}
use lib.Seq.{sets}
use Rattle.text.specs.Writer.{joined}
use Rattle.aiger_order.specs.Private.Steps.{latch_in}
use Rattle.aiger_order.proofs.stores.store_latches.Given as goal

abbrev pub invariant-loop-k : goal.invariant-loop-k
invariant-loop-k l = (l.k ≤ l.count) × (5 + 2 * l.count ≤ length l.loose) × (l.count ≤ 4095) × (l.net ≡ sets l.initial.net 5 (joined (latch_in l.loose l.news) l.k))

abbrev pub decreases-loop-k : goal.decreases-loop-k
decreases-loop-k l = l.count - l.k
