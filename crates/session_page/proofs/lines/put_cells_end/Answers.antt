-- `put_cells_end` meets its contract. Assumes nothing.
use native.Mathlib.Omega.{arith}
use Rattle.text.proofs.WritingLaws.{none}
use Rattle.session_page.proofs.CellLaws.{cells-ended, cells_open}
use Rattle.session_page.proofs.lines.put_cells_end.Goals as goal

pub returns-then-filled-ne0 : goal.returns-then-filled-ne0
returns-then-filled-ne0 c = rw (cells_open c.args.cells c.if-filled-ne0.true) c.put_rest.ensures

pub returns-else-filled-ne0 : goal.returns-else-filled-ne0
returns-else-filled-ne0 c = rw (cells-ended c.args.cells c.if-filled-ne0.false) (none c.args.page.now (omega (arith, c.well_formed)))
