-- `put_edges` meets its contract: after n turns the lines of n edges are written. Assumes nothing.
use Rattle.text.specs.Writer.{Writes, joined}
use Rattle.dearest_text.specs.Dearest.{loop_line}
use Rattle.dearest_graph.proofs.put_edges.Given as goal

abbrev pub invariant-loop : goal.invariant-loop
invariant-loop l = Writes l.initial.text l.text (joined (λ _. loop_line) l.counter)
