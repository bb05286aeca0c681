-- `graph::edges::vertex_at` meets its contract. Assumes nothing.
use Rattle.graph.proofs.edges.vertex_at.Goals as goal

pub returns : goal.returns
returns c = rw (← c.piece.ensures) c.look_up.ensures
