-- `gate_ok` meets its contract. Assumes nothing.
use mathlib.Core.Bool.{false}
use native.Mathlib.Omega.{arith}
use borrow.Author.Tests.{lt-ltb, le-ltb}
use Rattle.netlist.proofs.LiteralLaws.{made}
use Rattle.netlist.proofs.valid.gate_ok.Goals as goal

pub returns-then-r0-g : goal.returns-then-r0-g
returns-then-r0-g c = simp (← (made _ false (omega arith) c.literal-g.ensures), le-ltb _ _ c.if-r0-g.true)

pub returns : goal.returns
returns c = simp (← (made _ false (omega arith) c.literal-g.ensures), lt-ltb _ _ c.if-r0-g.false)
