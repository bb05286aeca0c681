-- `Literal::is_inverted` meets its contract. Assumes nothing.
use mathlib.Core.Path.{refl}
use Rattle.netlist.specs.Literals.{is_inverted}
use Rattle.netlist.proofs.literals.Literal.is_inverted.Goals as goal

pub returns : goal.returns
unfolding is_inverted
returns c = refl
