-- `put_gates` meets its contract: after k turns the first k lines are written. Assumes nothing.
use native.Mathlib.Nat.{le_antisymm}
use borrow.Author.Rules.{rules}
use Rattle.text.proofs.WritingLaws.{more}
use Rattle.aiger.specs.Format.{gate_line}
use Rattle.aiger.proofs.put_gates.Goals as goal

pub loop-k-preserved : goal.loop-k-preserved
unfolding gate_line
loop-k-preserved c =
    (search rules, more _ c.loop-k.k c.loop-k.invariant.1 (rw (c.requires.from_value.0, c.requires.from_value.1) at c.put_gate.ensures))

pub returns : goal.returns
returns c = rw (le_antisymm c.loop-k.invariant.0 c.loop-k-test.false) at c.loop-k.invariant.1
