-- `judge` meets its contract: the edges, and then the outputs. Assumes nothing.
use Rattle.std.proofs.Common.{◌∙◌, refl, ap, sym, arith}
use Rattle.builder.specs.Private.Terms.{Ends}
use Rattle.builder.specs.Private.Edges.{edges_in}
use Rattle.builder.proofs.AddingLaws.{whole_of, room-first, room-second}
use Rattle.builder.proofs.BuildLaws as builds
use Rattle.builder.proofs.gates.Gates.judge.Goals as goal

pub put_edges-requires : goal.put_edges-requires
put_edges-requires c =
    let a = c.args in
    let p = c.requires in
    let t = builds.judge_parts a.checked a.g.signals a.reached.now a.doomed.now a.marks.now (edges_in a.text.now a.g) a.self.now.next.0 _ refl in
    (p.0, p.1, p.2, p.3, p.4, room-first t p.6)

pub put_outputs-requires : goal.put_outputs-requires
put_outputs-requires c =
    let a = c.args in
    let p = c.requires in
    let m = c.put_edges.ensures.made in
    let t = builds.judge_parts a.checked a.g.signals a.reached.now a.doomed.now a.marks.now (edges_in a.text.now a.g) a.self.now.next.0 _ m.gates.count in (
      rw (m.happy, m.condemned) (room-second t p.6 m.gates),
      omega (arith, p.0.edges, p.5),
      omega (arith, p.3, p.5, c.put_edges.auto.happy),
      omega (arith, p.4, p.5, c.put_edges.auto.condemned),
    )

pub returns-clause-made : goal.returns-clause-made
returns-clause-made c =
    let a = c.args in
    let m = c.put_edges.ensures.made in
    let t = builds.judge_parts a.checked a.g.signals a.reached.now a.doomed.now a.marks.now (edges_in a.text.now a.g) a.self.now.next.0 _ m.gates.count in
    let q = builds.judge_ends a.checked a.g.signals a.reached.now a.doomed.now a.marks.now (edges_in a.text.now a.g) a.self.now.next.0 _ m.gates.count in
    let k = rw (m.happy, m.condemned) at c.put_outputs.ensures.made in
    record {
      gates = whole_of t m.gates k.gates;
      accepts = k.accepts ∙ sym (ap (λ (z : Ends). z.accept) q);
      seconds = k.seconds ∙ sym (ap (λ (z : Ends). z.second) q);
      happies = m.happy;
      condemneds = m.condemned;
    }
