-- `Cause::refusal` meets its contract. Assumes nothing.
use borrow.Author.Rules.{rules}
use Rattle.buffer_graph.specs.Write.{refusal_of}
use Rattle.buffer_graph.proofs.Cause.refusal.Goals as goal

pub returns-in-StrokesOutside : goal.returns-in-StrokesOutside
unfolding refusal_of
returns-in-StrokesOutside c = rw c.in-StrokesOutside.is

pub returns-in-ShortBuffer : goal.returns-in-ShortBuffer
unfolding refusal_of
returns-in-ShortBuffer c = rw c.in-ShortBuffer.is
