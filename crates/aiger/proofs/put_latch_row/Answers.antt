-- `put_latch_row` meets its contract. Assumes nothing.
use Rattle.aiger.proofs.RowLaws.{latch_plain, latch_reset}
use Rattle.aiger.proofs.put_latch_row.Goals as goal

pub returns-then-reset-eq0 : goal.returns-then-reset-eq0
returns-then-reset-eq0 c = rw (latch_plain _ _ _ c.if-reset-eq0.true) c.put_two.ensures

pub returns-else-reset-eq0 : goal.returns-else-reset-eq0
returns-else-reset-eq0 c = rw (latch_reset _ _ _ _ c.if-reset-eq0.false) c.put_three.ensures
