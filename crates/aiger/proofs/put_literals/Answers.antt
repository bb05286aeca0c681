-- `put_literals` meets its contract: after some turns so many lines are written. Assumes nothing.
use Rattle.text.proofs.WritingLaws.{more}
use Rattle.aiger.proofs.put_literals.Goals as goal

pub loop-lit-preserved : goal.loop-lit-preserved
loop-lit-preserved c = more _ c.loop-lit.lit-index c.loop-lit.invariant c.put_literal_row.ensures
