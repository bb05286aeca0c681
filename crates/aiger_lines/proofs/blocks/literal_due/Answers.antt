-- `literal_due` meets its contract. Assumes nothing.
use mathlib.Core.Bool.{false}
use native.Mathlib.Omega.{arith}
use Rattle.netlist.proofs.LiteralLaws.{made}
use Rattle.aiger_lines.proofs.blocks.literal_due.Goals as goal

pub returns : goal.returns
returns c = made _ false (omega (arith, c.requires)) c.literal.ensures
