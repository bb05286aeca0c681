-- `Literal::variable` meets its contract. Assumes nothing.
use mathlib.Core.Path.{refl}
use Rattle.netlist.specs.Literals.{variable_of}
use Rattle.netlist.proofs.literals.Literal.variable.Goals as goal

pub returns : goal.returns
unfolding variable_of
returns c = refl
