-- The cause of either form that is made of one of the text form is as its definition says. Assumes nothing.
use Rattle.aiger_file.specs.Read.{text_cause}
use Rattle.aiger_file.proofs.CauseFromAiger_readCause.from.Goals as goal

pub returns-in-TextTooLong : goal.returns-in-TextTooLong
unfolding text_cause
returns-in-TextTooLong c = rw c.in-TextTooLong.is

pub returns-in-ShortBuffer : goal.returns-in-ShortBuffer
unfolding text_cause
returns-in-ShortBuffer c = rw c.in-ShortBuffer.is

pub returns-in-FaultyLine : goal.returns-in-FaultyLine
unfolding text_cause
returns-in-FaultyLine c = rw c.in-FaultyLine.is

pub returns-in-WaitingGates : goal.returns-in-WaitingGates
unfolding text_cause
returns-in-WaitingGates c = rw c.in-WaitingGates.is
