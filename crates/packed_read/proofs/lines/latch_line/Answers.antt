-- `latch_line` meets its contract. Assumes nothing.
use mathlib.Core.Path.{◌≡◌}
use borrow.Author.Rules.{rules}
use Rattle.std.specs.Prelude.{Err}
use Rattle.aiger_lines.specs.Private.Steps.{row_in}
use Rattle.aiger_lines.proofs.LineLaws.{shape_none, shape_some}
use Rattle.packed_read.proofs.GateLaws.{latch_wrong, latch_as}
use Rattle.packed_read.proofs.lines.latch_line.Goals as goal

pub returns-in_err-line : goal.returns-in_err-line
unfolding row_in
returns-in_err-line c =
    let w = shape_none c.one_or_two.result c.ok_or.ensures.value c.in_err-line.was in
    let r : c.from_residual.result ≡ Err c.in_err-line.field-0.0 = search rules in
    rw (r, w.1) (latch_wrong _ _ _ _ c.one_or_two.ensures _ _ w.0)

pub returns : goal.returns
returns c =
    latch_as _ _ _ _ c.one_or_two.ensures _ _ _ (shape_some _ c.ok_or.ensures.value c.in_ok-line.was) _ c.latch_says.ensures
