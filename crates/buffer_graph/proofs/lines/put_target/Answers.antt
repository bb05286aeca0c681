-- `put_target` meets its contract: the number, the mark, the labels, and LF. Assumes nothing.
use borrow.Author.Rules.{rules}
use Rattle.text.proofs.WritingLaws.{then}
use Rattle.buffer_graph.proofs.lines.put_target.Goals as goal

pub returns : goal.returns
returns c =
    then c.number.ensures (then c.bytes.ensures (then c.bytes-2.ensures c.byte.ensures))
