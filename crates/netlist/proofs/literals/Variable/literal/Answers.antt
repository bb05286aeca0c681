-- `Variable::literal` meets its contract. Assumes nothing.
use mathlib.Core.Path.{sym}
use native.Mathlib.Nat.{add-zero}
use Rattle.netlist.specs.Literals.{literal_of, wrapped}
use Rattle.netlist.proofs.literals.Variable.literal.Goals as goal

pub returns-then-inverted : goal.returns-then-inverted
unfolding literal_of wrapped
returns-then-inverted c = rw c.if-inverted.true

pub returns-else-inverted : goal.returns-else-inverted
unfolding literal_of wrapped
returns-else-inverted c = rw c.if-inverted.false (sym (add-zero _))
