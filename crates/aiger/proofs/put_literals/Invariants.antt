-- `put_literals` meets its contract: after some turns so many lines are written. Assumes nothing.
use Prim.Native.Nat.{ℕ}
use lib.ListN.{get_or}
use Rattle.text.specs.Writer.{Writes, joined}
use Rattle.aiger.specs.Rows.{literal_row}
use Rattle.aiger.proofs.put_literals.Given as goal

abbrev pub invariant-loop-lit : goal.invariant-loop-lit
invariant-loop-lit l = Writes l.initial.text l.text (joined (λ (n : ℕ). literal_row (get_or l.literals n 0)) l.lit-index)
