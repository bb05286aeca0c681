-- `put_vertices` meets its contract: after n turns those of the first n counts are written. Assumes nothing.
use Rattle.text.specs.Writer.{Writes, joined}
use Rattle.buffer_text.specs.Text.{vertex_line}
use Rattle.buffer_graph.proofs.lines.put_vertices.Given as goal

abbrev pub invariant-loop-n : goal.invariant-loop-n
invariant-loop-n l = Writes l.initial.text l.text (joined vertex_line l.n)
