-- `put_inputs` meets its contract: after k turns the first k lines are written. Assumes nothing.
use Prim.Native.Nat.{◌≤◌, ◌-◌}
use Rattle.text.specs.Writer.{Writes, joined}
use Rattle.aiger.specs.Format.{input_line}
use Rattle.aiger.proofs.put_inputs.Given as goal

abbrev pub invariant-loop-k : goal.invariant-loop-k
invariant-loop-k l = (l.k ≤ l.count) × Writes l.initial.text l.text (joined input_line l.k)

abbrev pub decreases-loop-k : goal.decreases-loop-k
decreases-loop-k l = l.count - l.k
