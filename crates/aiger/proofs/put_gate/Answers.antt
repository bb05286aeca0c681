-- `put_gate` meets its contract. Assumes nothing.
use mathlib.Core.Bool.{false}
use native.Mathlib.Omega.{arith}
use Rattle.netlist.proofs.LiteralLaws.{made}
use Rattle.aiger.proofs.put_gate.Goals as goal

pub returns : goal.returns
returns c =
    rw (← (made _ false (omega arith) c.literal-lit.ensures)) c.put_gate_row.ensures
