-- `Cause::refusal` meets its contract. Assumes nothing.
use mathlib.Core.Path.{sym}
use Rattle.packed_read.specs.Read.{refusal_of}
use Rattle.packed_read.proofs.ReadLaws.{faulty-line}
use Rattle.packed_read.proofs.Cause.refusal.Goals as goal

pub returns-in-TextTooLong : goal.returns-in-TextTooLong
unfolding refusal_of
returns-in-TextTooLong c = rw c.in-TextTooLong.is

pub returns-in-ShortBuffer : goal.returns-in-ShortBuffer
unfolding refusal_of
returns-in-ShortBuffer c = rw c.in-ShortBuffer.is

pub returns-in-FaultyLine : goal.returns-in-FaultyLine
returns-in-FaultyLine c = rw (c.in-FaultyLine.is, c.number.ensures) (sym (faulty-line _ _))

pub returns-in-WrongShape : goal.returns-in-WrongShape
unfolding refusal_of
returns-in-WrongShape c = rw (c.in-FaultyRun.is, c.in-WrongShape.is)

pub returns-in-OutOfLimits : goal.returns-in-OutOfLimits
unfolding refusal_of
returns-in-OutOfLimits c = rw (c.in-FaultyRun.is, c.in-OutOfLimits.is)
