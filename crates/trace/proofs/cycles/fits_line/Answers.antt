-- `trace::cycles::fits_line` meets its contract. Assumes nothing.
use borrow.Author.Tests.{eq-eqb, ne_eqb}
use Rattle.trace.specs.Traces.{fits_line}
use Rattle.trace.proofs.cycles.fits_line.Goals as goal

pub returns-then-col-n : goal.returns-then-col-n
unfolding fits_line
returns-then-col-n c = rw (eq-eqb _ _ c.if-col-n.true)

pub returns-else-col-n : goal.returns-else-col-n
unfolding fits_line
returns-else-col-n c = rw (ne_eqb _ _ c.if-col-n.false, c.is_bit.ensures)
