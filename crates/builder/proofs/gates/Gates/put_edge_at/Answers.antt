-- `put_edge_at` meets its contract: the edge, from the literals of its from-vertex. Assumes nothing.
use Rattle.std.proofs.Common.{get_or, arith}
use Rattle.graph.specs.Held.{no_arc}
use Rattle.builder.specs.Private.Edges.{names_in}
use Rattle.builder.proofs.EdgeLaws as edge
use Rattle.builder.proofs.gates.Gates.put_edge_at.Goals as goal

pub bounds-reached-v : goal.bounds-reached-v
bounds-reached-v c = omega (arith, (c.requires.1.each c.args.i c.requires.0).from, c.requires.2)

pub bounds-doomed-v : goal.bounds-doomed-v
bounds-doomed-v c = omega (arith, (c.requires.1.each c.args.i c.requires.0).from, c.requires.3)

pub put_edge-requires : goal.put_edge-requires
put_edge-requires c =
    let a = c.args in
    let p = c.requires in
    let e = edge.edge_at a.g.signals a.self.now.next.0 a.reached.now a.doomed.now a.text.now (names_in a.text.now a.g) (get_or a.g.arcs a.i no_arc) in
    ((p.1.each a.i p.0).fine, p.1.bounded, rw e at p.4)

pub returns-clause-made : goal.returns-clause-made
returns-clause-made c =
    let a = c.args in
    rw (edge.edge_at a.g.signals a.self.now.next.0 a.reached.now a.doomed.now a.text.now (names_in a.text.now a.g) (get_or a.g.arcs a.i no_arc)) c.put_edge.ensures.made
