-- `put_gate` meets its contract. Assumes nothing.
use mathlib.Core.Bool.{false}
use native.Mathlib.Omega.{arith}
use Rattle.netlist.proofs.LiteralLaws.{made}
use Rattle.packed.proofs.put_gate.Goals as goal

pub put_gate_runs-requires : goal.put_gate_runs-requires
put_gate_runs-requires c =
    let own = made _ false c.requires.from_in_bounds.1 c.literal-lit.ensures in
    (omega arith, c.requires.from_bound.1)

pub returns : goal.returns
returns c =
    rw (← (made _ false (omega arith) c.literal-lit.ensures)) c.put_gate_runs.ensures
