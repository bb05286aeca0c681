-- `put_latch` meets its contract. Assumes nothing.
use mathlib.Core.Bool.{false}
use Rattle.netlist.proofs.LiteralLaws.{made}
use Rattle.aiger.specs.Format.{latch_line}
use Rattle.aiger.proofs.put_latch.Goals as goal

pub returns : goal.returns
unfolding latch_line
returns c =
    rw (← c.requires.0, ← (made _ false c.requires.1 c.literal-lit.ensures)) c.put_latch_row.ensures
