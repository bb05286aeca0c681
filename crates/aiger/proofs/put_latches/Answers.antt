-- `put_latches` meets its contract: after k turns the first k lines are written. Assumes nothing.
use native.Mathlib.Nat.{le_antisymm}
use borrow.Author.Rules.{rules}
use Rattle.text.proofs.WritingLaws.{more}
use Rattle.aiger.proofs.put_latches.Goals as goal

pub loop-k-preserved : goal.loop-k-preserved
loop-k-preserved c =
    (search rules, more _ c.loop-k.k c.loop-k.invariant.1 c.put_latch.ensures)

pub returns : goal.returns
returns c = rw (le_antisymm c.loop-k.invariant.0 c.loop-k-test.false) at c.loop-k.invariant.1
