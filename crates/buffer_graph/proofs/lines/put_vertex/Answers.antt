-- `put_vertex` meets its contract: the name, its number, and LF. Assumes nothing.
use borrow.Author.Rules.{rules}
use Rattle.text.proofs.WritingLaws.{then}
use Rattle.buffer_text.specs.Text.{vertex_line}
use Rattle.buffer_graph.proofs.lines.put_vertex.Goals as goal

pub returns : goal.returns
unfolding vertex_line
returns c =
    then c.bytes.ensures (then c.number.ensures c.byte.ensures)
