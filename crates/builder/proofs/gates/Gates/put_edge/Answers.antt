-- `put_edge` meets its contract: two formulas, and then five gates. Assumes nothing.
use Rattle.std.proofs.Common.{◌∙◌, refl}
use Rattle.builder.specs.Private.Terms.{tokens_of}
use Rattle.builder.specs.Private.Machine.{named}
use Rattle.builder.specs.Private.Edges.{edge_in}
use Rattle.builder.proofs.AddingLaws.{then, room-first, room-second, whole_of}
use Rattle.builder.proofs.EdgeLaws as edge
use Rattle.builder.proofs.gates.Gates.put_edge.Goals as goal

pub put_formula-p-requires : goal.put_formula-p-requires
unfolding edge_in
put_formula-p-requires c =
    let a = c.args in
    let p = c.requires in
    let e = edge_in a.names.now.text.now (named a.names.now) a.signals a.a in
    rw c.part.ensures (p.0.left, p.1, room-first (edge.edge-first a.signals a.self.now.next.0 a.happy.0 a.condemned.0 e _ _ refl refl) p.2)

pub put_formula-q-requires : goal.put_formula-q-requires
unfolding edge_in
put_formula-q-requires c =
    let a = c.args in
    let p = c.requires in
    let n = a.self.now.next.0 in
    let e = edge_in a.names.now.text.now (named a.names.now) a.signals a.a in
    let l = rw c.part.ensures at c.put_formula-p.ensures.made in
    rw c.part-2.ensures (
      p.0.right,
      p.1,
      room-first (edge.edge-second a.signals n a.happy.0 a.condemned.0 e _ _ l.gates.count refl)
          (room-second (edge.edge-first a.signals n a.happy.0 a.condemned.0 e _ _ l.gates.count refl) p.2 l.gates),
    )

pub put_tokens-requires : goal.put_tokens-requires
unfolding edge_in tokens_of
put_tokens-requires c =
    let a = c.args in
    let p = c.requires in
    let n = a.self.now.next.0 in
    let e = edge_in a.names.now.text.now (named a.names.now) a.signals a.a in
    let l = rw c.part.ensures at c.put_formula-p.ensures.made in
    let r = rw c.part-2.ensures at c.put_formula-q.ensures.made in
    room-second (edge.edge-second a.signals n a.happy.0 a.condemned.0 e _ _ l.gates.count r.gates.count)
    (room-second (edge.edge-first a.signals n a.happy.0 a.condemned.0 e _ _ l.gates.count r.gates.count) p.2 l.gates) r.gates

pub returns-clause-made : goal.returns-clause-made
unfolding edge_in
returns-clause-made c =
    let a = c.args in
    let n = a.self.now.next.0 in
    let e = edge_in a.names.now.text.now (named a.names.now) a.signals a.a in
    let l = rw c.part.ensures at c.put_formula-p.ensures.made in
    let r = rw c.part-2.ensures at c.put_formula-q.ensures.made in
    let t = rw (l.out, r.out) at c.put_tokens.ensures in
    let o = edge.edge-outs a.signals n a.happy.0 a.condemned.0 e _ _ l.gates.count r.gates.count in
    record {
      gates = whole_of (edge.edge-first a.signals n a.happy.0 a.condemned.0 e _ _ l.gates.count r.gates.count) l.gates (then r.gates t.made);
      happy = t.happy ∙ o.0;
      condemned = t.condemned ∙ o.1;
    }
