-- `is_index` meets its contract. Assumes nothing.
use borrow.Author.Tests.{lt-leb, le-leb, eq-eqb, ne_eqb}
use Rattle.formula.proofs.names.is_index.Goals as goal

pub returns-then-count-lt1 : goal.returns-then-count-lt1
returns-then-count-lt1 c = rw (lt-leb 1 _ c.if-count-lt1.true)

pub returns-then-count-eq1 : goal.returns-then-count-eq1
returns-then-count-eq1 c = rw (le-leb 1 _ c.if-count-lt1.false, eq-eqb _ 1 c.if-count-eq1.true)

pub returns-else-count-eq1 : goal.returns-else-count-eq1
returns-else-count-eq1 c = rw (le-leb 1 _ c.if-count-lt1.false, ne_eqb _ 1 c.if-count-eq1.false)
