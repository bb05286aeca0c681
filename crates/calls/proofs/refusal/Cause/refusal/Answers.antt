-- `calls::refusal::Cause::refusal` meets its contract. Assumes nothing.
use Rattle.calls.specs.Refusals.{refusal_of}
use Rattle.calls.proofs.refusal.Cause.refusal.Goals as goal

pub returns-in-TraceTooLong : goal.returns-in-TraceTooLong
unfolding refusal_of
returns-in-TraceTooLong c = rw c.in-TraceTooLong.is

pub returns-in-ShortBuffer : goal.returns-in-ShortBuffer
unfolding refusal_of
returns-in-ShortBuffer c = rw c.in-ShortBuffer.is

pub returns-in-WrongLine : goal.returns-in-WrongLine
unfolding refusal_of
returns-in-WrongLine c = rw c.in-WrongLine.is

pub returns-in-NotNetlist : goal.returns-in-NotNetlist
unfolding refusal_of
returns-in-NotNetlist c = rw c.in-NotNetlist.is

pub returns-in-FullTally : goal.returns-in-FullTally
unfolding refusal_of
returns-in-FullTally c = rw c.in-FullTally.is
