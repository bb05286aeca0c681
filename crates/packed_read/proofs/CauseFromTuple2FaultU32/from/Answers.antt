-- The cause of a fault is as its definition says. Assumes nothing.
use Rattle.packed_read.specs.Private.Steps.{cause_of}
use Rattle.packed_read.proofs.ReadLaws.{line-cause}
use Rattle.packed_read.proofs.CauseFromTuple2FaultU32.from.Goals as goal

pub returns-then-faulty-eq0 : goal.returns-then-faulty-eq0
unfolding cause_of
returns-then-faulty-eq0 c = rw c.if-faulty-eq0.true

pub returns-else-faulty-eq0 : goal.returns-else-faulty-eq0
returns-else-faulty-eq0 c = line-cause _ _ c.if-faulty-eq0.false
