-- `put_vertices` meets its contract: the vertices that are left make the gates and literals that are left. Assumes nothing.
use Rattle.std.proofs.Common.{◌∙◌, length, arith}
use Rattle.builder.proofs.AddingLaws.{go}
use Rattle.builder.proofs.TermLaws as laws
use Rattle.builder.proofs.gates.Gates.put_vertices.Goals as goal

pub loop-v-preserved : goal.loop-v-preserved
loop-v-preserved c =
    let a = c.args in
    let l = c.loop-v in
    let b = c.put_vertex-both.ensures in
    let t = laws.vertex_step a.to.now a.happy.now a.condemned.now l.self.next.0 l.v (length a.reached.now) _ (omega arith) b.made.count in (
      go l.invariant.0 t.0 b.made,
      laws.fill_step _ l.v _ _ _ _ _ (omega arith) l.invariant.1 t.1 b.happy,
      laws.fill_step _ l.v _ _ _ _ _ (omega arith) l.invariant.2 t.2 b.condemned,
      b.same ∙ l.invariant.3,
    )
