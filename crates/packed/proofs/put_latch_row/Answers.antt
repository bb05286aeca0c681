-- `put_latch_row` meets its contract. Assumes nothing.
use Rattle.aiger.specs.Rows.{literal_row}
use Rattle.packed.proofs.FormatLaws.{latch_plain, latch_reset}
use Rattle.packed.proofs.put_latch_row.Goals as goal

pub returns-then-reset-eq0 : goal.returns-then-reset-eq0
unfolding literal_row
returns-then-reset-eq0 c =
    rw (latch_plain _ _ c.if-reset-eq0.true) c.put_literal_row.ensures

pub returns-else-reset-eq0 : goal.returns-else-reset-eq0
returns-else-reset-eq0 c =
    rw (latch_reset _ _ _ c.if-reset-eq0.false) c.put_two.ensures
