-- `Cause::refusal` meets its contract. Assumes nothing.
use mathlib.Core.Path.{sym}
use Rattle.aiger_file.specs.Read.{refusal_of}
use Rattle.aiger_file.proofs.KeptLaws.{faulty-line}
use Rattle.aiger_file.proofs.Cause.refusal.Goals as goal

pub returns-in-TextTooLong : goal.returns-in-TextTooLong
unfolding refusal_of
returns-in-TextTooLong c = rw c.in-TextTooLong.is

pub returns-in-ShortBuffer : goal.returns-in-ShortBuffer
unfolding refusal_of
returns-in-ShortBuffer c = rw c.in-ShortBuffer.is

pub returns-in-FaultyLine : goal.returns-in-FaultyLine
returns-in-FaultyLine c = rw (c.in-FaultyLine.is, c.number.ensures) (sym (faulty-line _ _))

pub returns-in-WrongShape : goal.returns-in-WrongShape
unfolding refusal_of
returns-in-WrongShape c = rw (c.in-FaultyRun.is, c.in-WrongShape.is)

pub returns-in-OutOfLimits : goal.returns-in-OutOfLimits
unfolding refusal_of
returns-in-OutOfLimits c = rw (c.in-FaultyRun.is, c.in-OutOfLimits.is)

pub returns-in-WaitingGates : goal.returns-in-WaitingGates
unfolding refusal_of
returns-in-WaitingGates c = rw c.in-WaitingGates.is
