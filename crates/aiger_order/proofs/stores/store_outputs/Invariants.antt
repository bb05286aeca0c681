-- `store_outputs` meets its contract. Assumes nothing.
use mathlib.Core.Path.{◌≡◌}
use Prim.Native.Nat.{◌+◌, ◌-◌, ◌≤◌}
use lib.ListN.{length}
use lib.Seq.{sets}
use Rattle.text.specs.Writer.{joined}
use Rattle.netlist.specs.Layout.{output_at}
use Rattle.aiger_order.specs.Private.Steps.{output_in}
use Rattle.aiger_order.proofs.stores.store_outputs.Given as goal

abbrev pub invariant-loop-k : goal.invariant-loop-k
invariant-loop-k l = (l.k ≤ l.count) × (l.at + l.count ≤ length l.loose) × (l.at + l.count ≤ 9000) × (l.net ≡ sets l.initial.net (output_at l.loose 0) (joined (output_in l.loose l.news) l.k))

abbrev pub decreases-loop-k : goal.decreases-loop-k
decreases-loop-k l = l.count - l.k
