-- `session_page::lines::put_cells` meets its contract: after k turns the rejected of the first k cycles are written.
-- Assumes nothing.
use mathlib.Core.Path.{◌≡◌, ◌∙◌}
use native.Mathlib.Omega.{arith}
use lib.ListN.{take}
use lib.Seq.{take_all}
use Rattle.text.proofs.WritingLaws.{then, none}
use Rattle.trace.proofs.VerdictLaws.{bits}
use Rattle.session_text.specs.Pages.{rejected_of}
use Rattle.session_text.proofs.RejectedLaws.{rejected-none}
use Rattle.session_page.proofs.PrintableLaws.{count_next}
use Rattle.session_page.proofs.CellLaws.{cells-none, cells-lines, cycle_text_lem}
use Rattle.session_page.proofs.lines.put_cells.Goals as goal

pub loop-k-init : goal.loop-k-init
loop-k-init c =
    let a = c.args in
    (omega arith, rw (rejected-none 1), rw (rejected-none 1, cells-none) (none a.page.now (omega (arith, c.well_formed))))

pub overflow_cast-cells : goal.overflow_cast-cells
overflow_cast-cells c =
    omega (arith, bits c.args.verdicts.now c.requires c.loop-k.k)

pub overflow_add-cells : goal.overflow_add-cells
overflow_add-cells c =
    omega (arith, bits c.args.verdicts.now c.requires c.loop-k.k, c.well_formed)

pub loop-k-preserved : goal.loop-k-preserved
loop-k-preserved c =
    let v = c.args.verdicts.now in
    let k = c.loop-k.k in
    let bit = bits v c.requires k in (
      omega arith,
      count_next v k c.loop-k.cells c.loop-k-test.true bit c.loop-k.invariant.1,
      rw (cycle_text_lem v k c.loop-k-test.true c.loop-k.cells c.loop-k.invariant.1) (then c.loop-k.invariant.2 c.put_cycle.ensures),
    )

pub returns : goal.returns
returns c =
    let v = c.args.verdicts.now in
    let all : take c.loop-k.k v ≡ v = take_all c.loop-k.k v c.loop-k-test.false in
    rw (← cells-lines (rejected_of v)) (then (rw all at c.loop-k.invariant.2) (rw (c.loop-k.invariant.1, all) at c.put_cells_end.ensures))
