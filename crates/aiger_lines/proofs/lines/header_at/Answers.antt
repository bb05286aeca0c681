-- `header_at` meets its contract. Assumes nothing.
use mathlib.Core.Path.{◌≡◌, ◌∙◌, sym}
use native.Mathlib.Omega.{arith}
use borrow.Author.Tests.{not-true, not-false}
use borrow.Author.Rules.{rules}
use Rattle.std.specs.Prelude.{Err}
use Rattle.aiger_lines.specs.Private.Steps.{head_in}
use Rattle.aiger_lines.proofs.LineLaws.{shape_none, shape_some}
use Rattle.aiger_lines.proofs.HeadLaws.{head_untagged, head-wrong, head_bad, head-limits, head_good}
use Rattle.aiger_lines.proofs.lines.header_at.Goals as goal

pub returns-then-not-has_tag : goal.returns-then-not-has_tag
unfolding head_in
returns-then-not-has_tag c = head_untagged _ _ (sym c.has_tag.ensures ∙ not-true _ c.if-not-has_tag.true-raw)

pub returns-in_err-line : goal.returns-in_err-line
unfolding head_in
returns-in_err-line c =
    let w = shape_none c.fields_at.result c.ok_or.ensures.value c.in_err-line.was in
    let r : c.from_residual.result ≡ Err c.in_err-line.field-0.0 = search rules in
    rw (r, w.1) (head-wrong _ _ (sym c.has_tag.ensures ∙ not-false _ c.if-not-has_tag.false-raw) _ c.fields_at.ensures w.0)

pub returns-then-not-header_fits : goal.returns-then-not-header_fits
unfolding head_in
returns-then-not-header_fits c =
    head_bad _ _ (sym c.has_tag.ensures ∙ not-false _ c.if-not-has_tag.false-raw) _ c.fields_at.ensures _ (shape_some _ c.ok_or.ensures.value c.in_ok-line.was) (sym c.header_fits.ensures ∙ not-true _ c.if-not-header_fits.true-raw)

pub overflow_cast-result : goal.overflow_cast-result
overflow_cast-result c =
    let k = head-limits _ _ (sym c.has_tag.ensures ∙ not-false _ c.if-not-has_tag.false-raw) _ c.fields_at.ensures _ (shape_some _ c.ok_or.ensures.value c.in_ok-line.was) (sym c.header_fits.ensures ∙ not-false _ c.if-not-header_fits.false-raw) in
    omega (arith, k.sum, k.small, k.most)

pub overflow_cast-result-2 : goal.overflow_cast-result-2
overflow_cast-result-2 c =
    let k = head-limits _ _ (sym c.has_tag.ensures ∙ not-false _ c.if-not-has_tag.false-raw) _ c.fields_at.ensures _ (shape_some _ c.ok_or.ensures.value c.in_ok-line.was) (sym c.header_fits.ensures ∙ not-false _ c.if-not-header_fits.false-raw) in
    omega (arith, k.sum, k.small, k.most)

pub overflow_cast-result-3 : goal.overflow_cast-result-3
overflow_cast-result-3 c =
    let k = head-limits _ _ (sym c.has_tag.ensures ∙ not-false _ c.if-not-has_tag.false-raw) _ c.fields_at.ensures _ (shape_some _ c.ok_or.ensures.value c.in_ok-line.was) (sym c.header_fits.ensures ∙ not-false _ c.if-not-header_fits.false-raw) in
    omega (arith, k.sum, k.small, k.most)

pub overflow_cast-result-4 : goal.overflow_cast-result-4
overflow_cast-result-4 c =
    let k = head-limits _ _ (sym c.has_tag.ensures ∙ not-false _ c.if-not-has_tag.false-raw) _ c.fields_at.ensures _ (shape_some _ c.ok_or.ensures.value c.in_ok-line.was) (sym c.header_fits.ensures ∙ not-false _ c.if-not-header_fits.false-raw) in
    omega (arith, k.sum, k.small, k.most)

pub overflow_cast-result-5 : goal.overflow_cast-result-5
overflow_cast-result-5 c =
    let k = head-limits _ _ (sym c.has_tag.ensures ∙ not-false _ c.if-not-has_tag.false-raw) _ c.fields_at.ensures _ (shape_some _ c.ok_or.ensures.value c.in_ok-line.was) (sym c.header_fits.ensures ∙ not-false _ c.if-not-header_fits.false-raw) in
    omega (arith, k.sum, k.small, k.most)

pub returns : goal.returns
unfolding head_in
returns c =
    head_good _ _ (sym c.has_tag.ensures ∙ not-false _ c.if-not-has_tag.false-raw) _ c.fields_at.ensures _ (shape_some _ c.ok_or.ensures.value c.in_ok-line.was) (sym c.header_fits.ensures ∙ not-false _ c.if-not-header_fits.false-raw)
