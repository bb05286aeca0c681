-- `gate_line` meets its contract. Assumes nothing.
use mathlib.Core.Path.{◌≡◌, sym, ◌∙◌}
use Rattle.std.specs.Prelude.{Err}
use Rattle.aiger_lines.proofs.LineLaws.{shape_none, shape_some}
use borrow.Author.Tests.{not-true, not-false}
use Rattle.aiger_read.specs.Private.Steps.{gate_in}
use Rattle.aiger_read.proofs.RowLaws.{gate-tests, gate-small, gate-wrong, gate_bad, gate_good}
use borrow.Author.Rules.{rules}
use Rattle.aiger_read.proofs.lines.gate_line.Goals as goal

pub returns-in_err-line : goal.returns-in_err-line
unfolding gate_in
returns-in_err-line c =
    let w = shape_none c.three_numbers.result c.ok_or.ensures.value c.in_err-line.was in
    let r : c.from_residual.result ≡ Err c.in_err-line.field-0.0 = search rules in
    λ free. rw (r, w.1) (gate-wrong _ _ _ c.three_numbers.ensures _ _ _ w.0 free)

pub returns-then-not-gate_fits : goal.returns-then-not-gate_fits
unfolding gate_in
returns-then-not-gate_fits c =
    gate_bad _ _ _ c.three_numbers.ensures _ _ _ _ (shape_some _ c.ok_or.ensures.value c.in_ok-line.was) (sym c.gate_fits.ensures ∙ not-true _ c.if-not-gate_fits.true-raw)

pub overflow_cast-gate : goal.overflow_cast-gate
overflow_cast-gate c =
    let small = gate-small _ _ _ _ _ _ c.requires.0 (gate-tests _ _ _ _ (sym c.gate_fits.ensures ∙ not-false _ c.if-not-gate_fits.false-raw)) in
    search rules

pub gate_place-place-requires : goal.gate_place-place-requires
gate_place-place-requires c =
    (gate-tests _ _ _ _ (sym c.gate_fits.ensures ∙ not-false _ c.if-not-gate_fits.false-raw)).from

pub overflow_cast-gate-2 : goal.overflow_cast-gate-2
overflow_cast-gate-2 c =
    let small = gate-small _ _ _ _ _ _ c.requires.0 (gate-tests _ _ _ _ (sym c.gate_fits.ensures ∙ not-false _ c.if-not-gate_fits.false-raw)) in
    search rules

pub overflow_cast-gate-3 : goal.overflow_cast-gate-3
overflow_cast-gate-3 c =
    let small = gate-small _ _ _ _ _ _ c.requires.0 (gate-tests _ _ _ _ (sym c.gate_fits.ensures ∙ not-false _ c.if-not-gate_fits.false-raw)) in
    search rules

pub returns : goal.returns
unfolding gate_in
returns c =
    λ free.
    rw (c.store_pair.ensures, c.gate_place-place.ensures.0)
    (gate_good _ _ _ c.three_numbers.ensures _ _ _ _ (shape_some _ c.ok_or.ensures.value c.in_ok-line.was) (sym c.gate_fits.ensures ∙ not-false _ c.if-not-gate_fits.false-raw) free)
