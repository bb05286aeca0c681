-- `graph::edges::arc_of` meets its contract. Assumes nothing.
use Rattle.graph.proofs.edges.arc_of.Goals as goal

pub returns : goal.returns
returns c = rw (c.end_at-left_end.ensures.0, c.end_at-right_end.ensures.0)
