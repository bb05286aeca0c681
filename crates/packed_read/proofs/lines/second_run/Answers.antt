-- `second_run` meets its contract. Assumes nothing.
use mathlib.Core.Path.{◌≡◌, sym}
use borrow.Author.Rules.{rules}
use Rattle.std.specs.Prelude.{Err}
use Rattle.aiger_lines.specs.Private.Steps.{numbers_in, row_in}
use Rattle.aiger_lines.proofs.LineLaws.{shape_none, shape_some}
use Rattle.packed_read.proofs.GateLaws.{run-took, run-broken, second_none, second_above, second_good}
use Rattle.packed_read.proofs.lines.second_run.Goals as goal

pub returns-in_err-below : goal.returns-in_err-below
unfolding row_in
returns-in_err-below c =
    let w = shape_none c.run_at.result c.ok_or.ensures.value c.in_err-below.was in
    let r : c.from_residual.result ≡ Err c.in_err-below.field-0.0 = search rules in
    rw (r, w.1) (sym (second_none _ _ _ _ (run-broken c.run_at.ensures.0 w.0)))

pub returns-then-below-r0 : goal.returns-then-below-r0
unfolding row_in
returns-then-below-r0 c =
    sym (second_above _ _ _ _ _ _ (run-took c.run_at.ensures.0 (shape_some _ c.ok_or.ensures.value c.in_ok-below.was)) c.if-below-r0.true)

pub returns : goal.returns
unfolding row_in numbers_in
returns c =
    sym (second_good _ _ _ _ _ _ (run-took c.run_at.ensures.0 (shape_some _ c.ok_or.ensures.value c.in_ok-below.was)) c.if-below-r0.false)
