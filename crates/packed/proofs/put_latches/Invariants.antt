-- `put_latches` meets its contract: after k turns the first k lines are written. Assumes nothing.
use mathlib.Core.Bool.{false}
use Prim.Native.Nat.{◌≤◌, ◌-◌}
use Rattle.text.specs.Writer.{Writes, joined}
use Rattle.packed.specs.Format.{packed_latch}
use Rattle.packed.proofs.put_latches.Given as goal

abbrev pub invariant-loop-k : goal.invariant-loop-k
invariant-loop-k l = (l.k ≤ l.count) × Writes l.initial.file l.file (joined (packed_latch l.net (λ _. false)) l.k)

abbrev pub decreases-loop-k : goal.decreases-loop-k
decreases-loop-k l = l.count - l.k
