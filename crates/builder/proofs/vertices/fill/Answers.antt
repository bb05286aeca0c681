-- `fill` meets its contract: those that are left stand behind those that are stored. Assumes nothing.
use Rattle.std.proofs.Common.{length, arith}
use Rattle.builder.proofs.TermLaws as laws
use Rattle.builder.proofs.vertices.fill.Goals as goal

pub loop-i-preserved : goal.loop-i-preserved
loop-i-preserved c =
    let l = c.loop-i in
    laws.fill_step _ l.i _ _ _ _ _ (omega arith) l.invariant (laws.every_step c.args.n.0 l.i (length c.args.lits.now) (omega arith)) (rw c.after.ensures at c.literal.ensures)
