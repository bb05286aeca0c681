-- `put_gates` meets its contract: after k turns the runs of the first k gates are written. Assumes nothing.
use Prim.Native.Nat.{◌≤◌, ◌-◌}
use Rattle.text.specs.Writer.{Writes, joined}
use Rattle.packed.specs.Format.{packed_gate}
use Rattle.packed.proofs.put_gates.Given as goal

abbrev pub invariant-loop-k : goal.invariant-loop-k
invariant-loop-k l = (l.k ≤ l.count) × Writes l.initial.file l.file (joined (packed_gate l.net) l.k)

abbrev pub decreases-loop-k : goal.decreases-loop-k
decreases-loop-k l = l.count - l.k
