-- `gate_lines` meets its contract: what is read of the lines that are left is read of all. Assumes nothing.
use Prim.Native.Nat.{◌-◌}
use Rattle.aiger_read.proofs.PassLaws.{Filling}
use Rattle.aiger_read.proofs.files.gate_lines.Given as goal

abbrev pub invariant-loop-k : goal.invariant-loop-k
invariant-loop-k l = Filling l.s l.first.0 l.last.0 l.k-end l.line l.initial.ops l.from.free l.initial.at l.ops l.k-counter l.at

abbrev pub decreases-loop-k : goal.decreases-loop-k
decreases-loop-k l = l.k-end - l.k-counter
