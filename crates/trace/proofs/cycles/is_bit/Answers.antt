-- `trace::cycles::is_bit` meets its contract. Assumes nothing.
use borrow.Author.Tests.{eq-eqb, ne_eqb}
use Rattle.trace.specs.Traces.{is_bit}
use Rattle.trace.proofs.cycles.is_bit.Goals as goal

pub returns-then-b-eq48 : goal.returns-then-b-eq48
unfolding is_bit
returns-then-b-eq48 c = simp (eq-eqb _ _ c.if-b-eq48.true)

pub returns-else-b-eq48 : goal.returns-else-b-eq48
unfolding is_bit
returns-else-b-eq48 c = simp (ne_eqb _ _ c.if-b-eq48.false)
