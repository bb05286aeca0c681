-- `graph::Cause::refusal` meets its contract. Assumes nothing.
use Rattle.graph.specs.Reading.{refusal_of}
use Rattle.graph.proofs.Cause.refusal.Goals as goal

pub returns-in-TextTooLong : goal.returns-in-TextTooLong
unfolding refusal_of
returns-in-TextTooLong c = rw c.in-TextTooLong.is

pub returns-in-FaultyLine : goal.returns-in-FaultyLine
unfolding refusal_of
returns-in-FaultyLine c = rw (c.in-FaultyLine.is, c.fault_number-number.ensures)

pub returns-in-NoVertex : goal.returns-in-NoVertex
unfolding refusal_of
returns-in-NoVertex c = rw c.in-NoVertex.is
