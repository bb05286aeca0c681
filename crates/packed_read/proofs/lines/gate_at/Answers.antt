-- `gate_at` meets its contract. Assumes nothing.
use mathlib.Core.Path.{◌≡◌, sym, ◌∙◌}
use borrow.Author.Rules.{rules}
use Rattle.std.specs.Prelude.{Err}
use Rattle.aiger_lines.specs.Private.Steps.{row_in}
use Rattle.aiger_lines.proofs.LineLaws.{shape_none, shape_some}
use Rattle.packed_read.proofs.GateLaws.{run-took, run-broken, gate-none, gate-zero, gate-above, gate_good}
use Rattle.packed_read.proofs.lines.gate_at.Goals as goal

pub returns-in_err-below : goal.returns-in_err-below
unfolding row_in
returns-in_err-below c =
    let w = shape_none c.run_at.result c.ok_or.ensures.value c.in_err-below.was in
    let r : c.from_residual.result ≡ Err c.in_err-below.field-0.0 = search rules in
    rw (r, w.1) (sym (gate-none _ _ _ _ (run-broken c.run_at.ensures.0 w.0)))

pub returns-then-below-lt1 : goal.returns-then-below-lt1
unfolding row_in
returns-then-below-lt1 c =
    sym (gate-zero _ _ _ _ _ _ (run-took c.run_at.ensures.0 (shape_some _ c.ok_or.ensures.value c.in_ok-below.was)) c.if-below-lt1.true)

pub returns-then-below-lit : goal.returns-then-below-lit
unfolding row_in
returns-then-below-lit c =
    sym (gate-above _ _ _ _ _ _ (run-took c.run_at.ensures.0 (shape_some _ c.ok_or.ensures.value c.in_ok-below.was)) c.if-below-lt1.false c.if-below-lit.true)

pub returns : goal.returns
returns c =
    c.second_run.ensures ∙ sym (gate_good _ _ _ _ _ _ (run-took c.run_at.ensures.0 (shape_some _ c.ok_or.ensures.value c.in_ok-below.was)) c.if-below-lt1.false c.if-below-lit.false)
