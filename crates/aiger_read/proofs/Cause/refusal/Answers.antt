-- `Cause::refusal` meets its contract. Assumes nothing.
use Rattle.aiger_read.specs.Read.{refusal_of}
use mathlib.Core.Path.{sym}
use Rattle.aiger_read.proofs.ReadLaws.{faulty-line}
use Rattle.aiger_read.proofs.Cause.refusal.Goals as goal

pub returns-in-TextTooLong : goal.returns-in-TextTooLong
unfolding refusal_of
returns-in-TextTooLong c = rw c.in-TextTooLong.is

pub returns-in-ShortBuffer : goal.returns-in-ShortBuffer
unfolding refusal_of
returns-in-ShortBuffer c = rw c.in-ShortBuffer.is

pub returns-in-FaultyLine : goal.returns-in-FaultyLine
returns-in-FaultyLine c = rw (c.in-FaultyLine.is, c.number.ensures) (sym (faulty-line _ _))

pub returns-in-WaitingGates : goal.returns-in-WaitingGates
unfolding refusal_of
returns-in-WaitingGates c = rw c.in-WaitingGates.is
