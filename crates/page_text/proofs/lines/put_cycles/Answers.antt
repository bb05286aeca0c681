-- `put_cycles` meets its contract: after k turns the lines of the first k cycles are written. Assumes nothing.
use native.Mathlib.Omega.{arith}
use borrow.Author.Tests.{eq-eqb, ne_eqb}
use lib.ListN.{get_or}
use Rattle.text.specs.Writer.{Writes}
use Rattle.text.proofs.WritingLaws.{more, still}
use Rattle.page_text.specs.Lines.{cycle_line}
use Rattle.page_text.proofs.lines.put_cycles.Goals as goal
use Rattle.page_text.proofs.lines.put_cycles.Goals.{then-b-eq1, else-b-eq1}

pub loop-k-preserved : goal.loop-k-preserved
unfolding cycle_line
loop-k-preserved c =
    let v = c.args.bytes.now in
    let k = c.loop-k.k in
    let line : Writes c.loop-k.page c.if-b-eq1.page (cycle_line v k) = elim c.if-b-eq1.branch [
      | then-b-eq1 w ↦ rw (w.page-is, eq-eqb (get_or v k 0) 1 (omega arith)) w.put_rejected.ensures
      | else-b-eq1 w ↦ rw (w.page-is, ne_eqb (get_or v k 0) 1 (λ h. omega arith)) (still c.loop-k.invariant)
    ] in
    more _ k c.loop-k.invariant line
