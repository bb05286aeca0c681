-- The cause of either form that is made of one of the packed form is as its definition says. Assumes nothing.
use Rattle.aiger_file.specs.Read.{packed_cause}
use Rattle.aiger_file.proofs.CauseFromPacked_readCause.from.Goals as goal

pub returns-in-TextTooLong : goal.returns-in-TextTooLong
unfolding packed_cause
returns-in-TextTooLong c = rw c.in-TextTooLong.is

pub returns-in-ShortBuffer : goal.returns-in-ShortBuffer
unfolding packed_cause
returns-in-ShortBuffer c = rw c.in-ShortBuffer.is

pub returns-in-FaultyLine : goal.returns-in-FaultyLine
unfolding packed_cause
returns-in-FaultyLine c = rw c.in-FaultyLine.is

pub returns-in-FaultyRun : goal.returns-in-FaultyRun
unfolding packed_cause
returns-in-FaultyRun c = rw c.in-FaultyRun.is
