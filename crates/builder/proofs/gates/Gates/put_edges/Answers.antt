-- `put_edges` meets its contract: the edges that are left make the gates and literals that are left. Assumes nothing.
use Rattle.std.proofs.Common.{◌<◌, ◌∙◌, refl, arith}
use Rattle.builder.specs.Private.Edges.{names_in, edges_in}
use Rattle.builder.proofs.AddingLaws.{begin, go, going_room, done}
use Rattle.builder.proofs.TermLaws as laws
use Rattle.builder.proofs.EdgeLaws as edge
use Rattle.builder.proofs.gates.Gates.put_edges.Goals as goal

pub loop-i-init : goal.loop-i-init
unfolding edges_in
loop-i-init c = (begin _ _ c.requires.5.from, refl, refl, refl)

pub put_edge_at-both-requires : goal.put_edge_at-both-requires
put_edge_at-both-requires c =
    let a = c.args in
    let p = c.requires in
    let l = c.loop-i in
    let h : l.i < a.g.edges = omega (arith, c.loop-i-test.true) in
    let r = edge.edges-row a.g.arcs a.g.edges (omega (arith, p.0.arcs, p.0.edges)) a.text.now (names_in a.text.now a.g) a.g.signals l.i h in
    let t = edge.edges_step a.g.signals a.reached.now a.doomed.now l.self.next.0 _ _ _ _ r refl in
    (h, p.0, p.1, p.2, going_room l.invariant.0 t.0 p.5)

pub loop-i-preserved : goal.loop-i-preserved
loop-i-preserved c =
    let a = c.args in
    let p = c.requires in
    let l = c.loop-i in
    let h : l.i < a.g.edges = omega (arith, c.loop-i-test.true) in
    let b = c.put_edge_at-both.ensures in
    let r = edge.edges-row a.g.arcs a.g.edges (omega (arith, p.0.arcs, p.0.edges)) a.text.now (names_in a.text.now a.g) a.g.signals l.i h in
    let t = edge.edges_step a.g.signals a.reached.now a.doomed.now l.self.next.0 _ _ _ _ r b.made.gates.count in (
      go l.invariant.0 t.0 b.made.gates,
      laws.fill_step _ l.i _ _ _ _ _ (omega (arith, h, p.3, l.auto.happy)) l.invariant.1 t.1 b.made.happy,
      laws.fill_step _ l.i _ _ _ _ _ (omega (arith, h, p.4, l.auto.condemned)) l.invariant.2 t.2 b.made.condemned,
      b.same ∙ l.invariant.3,
    )

pub returns-clause-made : goal.returns-clause-made
returns-clause-made c =
    let a = c.args in
    let p = c.requires in
    let l = c.loop-i in
    let r = edge.edges_none a.g.arcs a.g.edges (omega (arith, p.0.arcs, p.0.edges)) a.text.now (names_in a.text.now a.g) a.g.signals l.i c.loop-i-test.false in
    let t = edge.edges_end a.g.signals a.reached.now a.doomed.now l.self.next.0 _ r in
    record {
      gates = done l.invariant.0 t.0;
      happy = laws.fill_end l.happy l.i _ _ l.invariant.1 t.1 (omega (arith, p.3, l.auto.happy, c.loop-i-test.false));
      condemned = laws.fill_end l.condemned l.i _ _ l.invariant.2 t.2 (omega (arith, p.4, l.auto.condemned, c.loop-i-test.false));
    }
