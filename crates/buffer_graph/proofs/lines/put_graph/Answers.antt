-- `put_graph` meets its contract: signals and start vertex, the counts' vertices, the start's edge, and the counts' edges.
-- Assumes nothing.
use borrow.Author.Rules.{rules}
use Rattle.text.proofs.WritingLaws.{then}
use Rattle.buffer_text.specs.Text.{heading, start_line, buffer_text}
use Rattle.buffer_graph.proofs.lines.put_graph.Goals as goal

pub returns : goal.returns
unfolding buffer_text heading start_line
returns c =
    then {s = heading} c.bytes.ensures (then c.put_vertices.ensures (then {s = start_line} c.bytes-2.ensures c.put_counts.ensures))
