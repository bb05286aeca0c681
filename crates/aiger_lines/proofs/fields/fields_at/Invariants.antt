-- `fields_at` meets its contract: after k numbers they stand first, and the others are still to come. Assumes nothing.
use Prim.Native.Nat.{◌-◌}
use Rattle.aiger_lines.proofs.LineLaws.{Reading}
use Rattle.aiger_lines.proofs.fields.fields_at.Given as goal

abbrev pub invariant-loop-k : goal.invariant-loop-k
invariant-loop-k l = Reading l.s l.at l.last l.values l.p l.k

abbrev pub decreases-loop-k : goal.decreases-loop-k
decreases-loop-k l = l.last - l.k
