-- `put_constants` meets its contract: those that are left stand behind those that are stored. Assumes nothing.
use Rattle.std.proofs.Common.{arith}
use Rattle.builder.proofs.TermLaws as laws
use Rattle.builder.proofs.latches.put_constants.Goals as goal

pub loop-i-preserved : goal.loop-i-preserved
loop-i-preserved c =
    let l = c.loop-i in
    (omega arith, laws.own_step _ _ _ c.args.l.0 l.i c.args.count _ c.loop-i-test.true (rw c.after.ensures at c.literal-own.ensures) l.invariant.1)
