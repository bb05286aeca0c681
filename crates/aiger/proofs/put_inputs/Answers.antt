-- `put_inputs` meets its contract: after k turns the first k lines are written. Assumes nothing.
use mathlib.Core.Bool.{false}
use native.Mathlib.Omega.{arith}
use native.Mathlib.Nat.{le_antisymm}
use borrow.Author.Rules.{rules}
use Rattle.text.proofs.WritingLaws.{more}
use Rattle.netlist.proofs.LiteralLaws.{made}
use Rattle.aiger.specs.Format.{input_line}
use Rattle.aiger.proofs.put_inputs.Goals as goal

pub loop-k-preserved : goal.loop-k-preserved
unfolding input_line
loop-k-preserved c =
    (search rules, more _ c.loop-k.k c.loop-k.invariant.1 (rw (made _ false (omega arith) c.literal-lit.ensures) at c.put_literal_row.ensures))

pub returns : goal.returns
returns c = rw (le_antisymm c.loop-k.invariant.0 c.loop-k-test.false) at c.loop-k.invariant.1
