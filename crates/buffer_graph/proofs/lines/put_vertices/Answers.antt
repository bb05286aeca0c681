-- `put_vertices` meets its contract: after n turns those of the first n counts are written. Assumes nothing.
use native.Mathlib.Nat.{le_antisymm}
use Rattle.text.proofs.WritingLaws.{more}
use Rattle.buffer_graph.proofs.lines.put_vertices.Goals as goal

pub loop-n-preserved : goal.loop-n-preserved
loop-n-preserved c =
    more _ c.loop-n.n c.loop-n.invariant c.put_vertex.ensures

pub returns : goal.returns
returns c = rw (le_antisymm c.loop-n.auto.n-end c.loop-n-test.false) at c.loop-n.invariant
