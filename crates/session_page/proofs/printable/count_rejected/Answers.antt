-- `session_page::printable::count_rejected` meets its contract: after k turns the first k bytes are counted, and what is
-- left has one above 1 where the whole has. Assumes nothing.
use mathlib.Core.Path.{refl, sym, ◌∙◌}
use native.Mathlib.Omega.{arith}
use Rattle.trace.proofs.VerdictLaws.{bits-here, bits-next}
use Rattle.session_text.proofs.RejectedLaws.{rejected-none}
use Rattle.session_page.proofs.PrintableLaws.{count_none, count-all, count_next}
use Rattle.session_page.proofs.printable.count_rejected.Goals as goal

pub loop-b-init : goal.loop-b-init
loop-b-init c = (omega arith, rw (rejected-none 1), refl)

pub returns-then-b-gt1 : goal.returns-then-b-gt1
returns-then-b-gt1 c =
    let v = c.args.verdicts.now in
    count_none v (sym c.loop-b.invariant.2 ∙ bits-here v c.loop-b.b-index c.loop-b-test.true c.if-b-gt1.true)

pub loop-b-preserved : goal.loop-b-preserved
loop-b-preserved c =
    let v = c.args.verdicts.now in
    let k = c.loop-b.b-index in (
      omega arith,
      count_next v k c.loop-b.rejected c.loop-b-test.true c.if-b-gt1.false c.loop-b.invariant.1,
      sym (bits-next v k c.loop-b-test.true c.if-b-gt1.false) ∙ c.loop-b.invariant.2,
    )

pub returns : goal.returns
returns c =
    count-all c.args.verdicts.now c.loop-b-test.false c.loop-b.invariant.1 c.loop-b.invariant.2
