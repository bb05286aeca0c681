-- `put_graph` meets its contract: the vertex, and then the edges. Assumes nothing.
use borrow.Author.Rules.{rules}
use Rattle.text.proofs.WritingLaws.{then}
use Rattle.dearest_text.specs.Dearest.{vertex_line, dearest_text}
use Rattle.dearest_graph.proofs.put_graph.Goals as goal

pub returns : goal.returns
unfolding dearest_text vertex_line
returns c =
    then {s = vertex_line} c.bytes.ensures c.put_edges.ensures
