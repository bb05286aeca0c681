-- `graph::formulas::lower_of` meets its contract. Assumes nothing.
use borrow.Author.Tests.{le-leb, lt-leb}
use Rattle.graph.specs.Reading.{lower}
use native.Mathlib.Omega.{arith}
use Rattle.graph.proofs.formulas.lower_of.Goals as goal

pub returns-in_default : goal.returns-in_default
unfolding lower
returns-in_default c = rw c.in_default.is

pub returns-in_default-b : goal.returns-in_default-b
unfolding lower
returns-in_default-b c = rw (c.in-Err.is, c.in_default-b.is)

pub returns-then-fault_number : goal.returns-then-fault_number
unfolding lower
returns-then-fault_number c =
    rw (c.in-Err.is, c.in-Err-b.is, ← c.fault_number.ensures, ← c.fault_number-2.ensures, le-leb c.fault_number.result c.fault_number-2.result (omega arith))

pub returns-else-fault_number : goal.returns-else-fault_number
unfolding lower
returns-else-fault_number c =
    rw (c.in-Err.is, c.in-Err-b.is, ← c.fault_number.ensures, ← c.fault_number-2.ensures, lt-leb c.fault_number.result c.fault_number-2.result (omega arith))
