-- `put_masks` meets its contract: the masks that are left make the gates that are left. Assumes nothing.
use Rattle.std.proofs.Common.{◌∙◌}
use Rattle.builder.proofs.AddingLaws.{go}
use Rattle.builder.proofs.TermLaws as laws
use Rattle.builder.proofs.gates.Gates.put_masks.Goals as goal

pub loop-i-preserved : goal.loop-i-preserved
loop-i-preserved c =
    let l = c.loop-i in
    let m = rw (c.literal.ensures, c.after.ensures, c.literal-running.ensures) at c.put_and.ensures.made.gates in
    (go l.invariant.0 (laws.mask_step c.args.l.0 l.i c.args.count c.loop-i-test.true) m, c.put_and.ensures.same ∙ l.invariant.1)
