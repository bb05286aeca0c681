-- `output_line` meets its contract. Assumes nothing.
use mathlib.Core.Path.{◌≡◌}
use Rattle.std.specs.Prelude.{Err}
use borrow.Author.Rules.{rules}
use Rattle.aiger_lines.specs.Private.Steps.{numbers_in, row_in}
use Rattle.aiger_lines.proofs.RowLaws.{output-wrong, output_bad, output_good}
use Rattle.aiger_lines.proofs.LineLaws.{shape_none, shape_some}
use Rattle.aiger_lines.proofs.lines.output_line.Goals as goal

pub returns-in_err-line : goal.returns-in_err-line
unfolding row_in
returns-in_err-line c =
    let w = shape_none c.one_number.result c.ok_or.ensures.value c.in_err-line.was in
    let r : c.from_residual.result ≡ Err c.in_err-line.field-0.0 = search rules in
    rw (r, w.1) (output-wrong _ _ _ _ c.one_number.ensures _ w.0)

pub returns-then-values-last : goal.returns-then-values-last
unfolding row_in
returns-then-values-last c =
    output_bad _ _ _ _ c.one_number.ensures _ _ (shape_some _ c.ok_or.ensures.value c.in_ok-line.was) c.if-values-last.true

pub returns : goal.returns
unfolding row_in numbers_in
returns c =
    output_good _ _ _ _ c.one_number.ensures _ _ (shape_some _ c.ok_or.ensures.value c.in_ok-line.was) c.if-values-last.false
