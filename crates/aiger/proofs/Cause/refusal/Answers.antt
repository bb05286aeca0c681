-- `Cause::refusal` meets its contract. Assumes nothing.
use Rattle.aiger.specs.Write.{refusal_of}
use Rattle.aiger.proofs.Cause.refusal.Goals as goal

pub returns-in-ShortBuffer : goal.returns-in-ShortBuffer
unfolding refusal_of
returns-in-ShortBuffer c = rw c.in-ShortBuffer.is

pub returns-in-NotNetlist : goal.returns-in-NotNetlist
unfolding refusal_of
returns-in-NotNetlist c = rw c.in-NotNetlist.is
