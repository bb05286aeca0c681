-- `literal` meets its contract. Assumes nothing.
use native.Mathlib.Omega.{arith}
use Rattle.netlist.proofs.LiteralLaws.{made}
use Rattle.builder.proofs.gates.literal.Goals as goal

pub returns : goal.returns
returns c = made _ _ (omega arith) c.literal.ensures
