-- A cause of a step becomes one of a turn as the definition has it. Assumes nothing.
use Rattle.bench_turns.specs.Refusals.{cause_of}
use Rattle.bench_turns.proofs.CauseFromCallsCause.from.Goals as goal

pub returns-in-TraceTooLong : goal.returns-in-TraceTooLong
unfolding cause_of
returns-in-TraceTooLong c = rw c.in-TraceTooLong.is

pub returns-in-ShortBuffer : goal.returns-in-ShortBuffer
unfolding cause_of
returns-in-ShortBuffer c = rw c.in-ShortBuffer.is

pub returns-in-WrongLine : goal.returns-in-WrongLine
unfolding cause_of
returns-in-WrongLine c = rw c.in-WrongLine.is

pub returns-in-NotNetlist : goal.returns-in-NotNetlist
unfolding cause_of
returns-in-NotNetlist c = rw c.in-NotNetlist.is

pub returns-in-FullTally : goal.returns-in-FullTally
unfolding cause_of
returns-in-FullTally c = rw c.in-FullTally.is
