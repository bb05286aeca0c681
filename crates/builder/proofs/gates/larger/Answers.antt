-- `larger` meets its contract. Assumes nothing.
use borrow.Author.Tests.{le-leb, lt-leb}
use Rattle.circuit.specs.Gates.{gate}
use Rattle.builder.proofs.gates.larger.Goals as goal

pub returns-then-b-a : goal.returns-then-b-a
unfolding gate
returns-then-b-a c = rw (le-leb _ _ c.if-b-a.true, gate)

pub returns-else-b-a : goal.returns-else-b-a
unfolding gate
returns-else-b-a c = rw (lt-leb _ _ c.if-b-a.false, gate)
