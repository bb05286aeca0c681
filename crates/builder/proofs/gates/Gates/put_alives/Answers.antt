-- `put_alives` meets its contract: the edges that are left make the gates and literals that are left. Assumes nothing.
use Rattle.std.proofs.Common.{◌∙◌, arith}
use Rattle.builder.proofs.AddingLaws.{go}
use Rattle.builder.proofs.TermLaws as laws
use Rattle.builder.proofs.gates.Gates.put_alives.Goals as goal

pub loop-i-preserved : goal.loop-i-preserved
loop-i-preserved c =
    let a = c.args in
    let l = c.loop-i in
    let k = c.put_alive-lit.ensures in
    let t = laws.alive_turn a.marks.now a.happy.now a.condemned.now c.requires.1 c.requires.2 l.i c.loop-i-test.true l.self.next.0 _ k.made.gates.count in
    (go l.invariant.0 t.0 k.made.gates, laws.fill_step _ l.i _ _ _ _ _ (omega arith) l.invariant.1 t.1 k.made.out, k.same ∙ l.invariant.2)
