-- `Cause::refusal` meets its contract. Assumes nothing.
use borrow.Author.Rules.{rules}
use Rattle.dearest_graph.specs.Write.{refusal_of}
use Rattle.dearest_graph.proofs.Cause.refusal.Goals as goal

pub returns-in-EdgesOutside : goal.returns-in-EdgesOutside
unfolding refusal_of
returns-in-EdgesOutside c = rw c.in-EdgesOutside.is

pub returns-in-ShortBuffer : goal.returns-in-ShortBuffer
unfolding refusal_of
returns-in-ShortBuffer c = rw c.in-ShortBuffer.is
