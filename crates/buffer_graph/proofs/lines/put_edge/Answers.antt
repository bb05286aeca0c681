-- `put_edge` meets its contract: the count it leaves, and the rest. Assumes nothing.
use borrow.Author.Rules.{rules}
use Rattle.text.proofs.WritingLaws.{then}
use Rattle.buffer_text.specs.Text.{edge_line}
use Rattle.buffer_graph.proofs.lines.put_edge.Goals as goal

pub returns : goal.returns
unfolding edge_line
returns c =
    then c.bytes.ensures (then c.number.ensures (then c.bytes-2.ensures c.put_target.ensures))
