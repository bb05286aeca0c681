-- `first_broken::refusal::check` meets its contract: each return is one test of the definition. Assumes nothing.
use mathlib.Core.Path.{sym, ◌∙◌}
use native.Mathlib.Omega.{arith}
use borrow.Author.Tests.{not-true, not-false}
use Rattle.trace.specs.Traces.{line_count}
use Rattle.trace.proofs.TraceLaws.{fault-bound}
use Rattle.first_broken.specs.Refusals.{is_judged}
use Rattle.first_broken.proofs.RefusalLaws.{flywheel_long, handle_long, no_width, too_wide, flywheel_wrong, handle_wrong, flywheel_unjudged, handle_unjudged, nothing-wrong}
use Rattle.first_broken.proofs.refusal.check.Goals as goal

pub returns-then-flywheel-gt-MAX_TRACE : goal.returns-then-flywheel-gt-MAX_TRACE
returns-then-flywheel-gt-MAX_TRACE c = let p = flywheel_long _ _ _ c.if-flywheel-gt-MAX_TRACE.true in record { value = p.0; checks = p.1 }

pub returns-then-handle-gt-MAX_TRACE : goal.returns-then-handle-gt-MAX_TRACE
returns-then-handle-gt-MAX_TRACE c = let p = handle_long _ _ _ c.if-handle-gt-MAX_TRACE.true in record { value = p.0; checks = p.1 }

pub returns-then-width-eq0 : goal.returns-then-width-eq0
returns-then-width-eq0 c = let p = no_width _ _ _ (record { flywheel_short = c.if-flywheel-gt-MAX_TRACE.false; handle_short = c.if-handle-gt-MAX_TRACE.false }) c.if-width-eq0.true in record { value = p.0; checks = p.1 }

pub returns-then-width-gt-MAX_WIDTH : goal.returns-then-width-gt-MAX_WIDTH
returns-then-width-gt-MAX_WIDTH c = let p = too_wide _ _ _ (record { flywheel_short = c.if-flywheel-gt-MAX_TRACE.false; handle_short = c.if-handle-gt-MAX_TRACE.false }) c.if-width-gt-MAX_WIDTH.true in record { value = p.0; checks = p.1 }

pub overflow_cast-line : goal.overflow_cast-line
overflow_cast-line c =
    let x = c.args in
    omega (arith, fault-bound x.width x.flywheel.now, c.fault-first.ensures.value, c.if-flywheel-gt-MAX_TRACE.false)

pub returns-then-first-ne0 : goal.returns-then-first-ne0
returns-then-first-ne0 c = let p = flywheel_wrong _ _ _ (record { short = record { flywheel_short = c.if-flywheel-gt-MAX_TRACE.false; handle_short = c.if-handle-gt-MAX_TRACE.false }; some = omega (arith, c.if-width-eq0.false); most = c.if-width-gt-MAX_WIDTH.false }) _ c.fault-first.ensures.value c.if-first-ne0.true in record { value = p.0; checks = p.1 }

pub overflow_cast-line-then-second-ne0 : goal.overflow_cast-line-then-second-ne0
overflow_cast-line-then-second-ne0 c =
    let x = c.args in
    omega (arith, fault-bound x.width x.handle.now, c.fault-second.ensures.value, c.if-handle-gt-MAX_TRACE.false)

pub returns-then-second-ne0 : goal.returns-then-second-ne0
returns-then-second-ne0 c = let p = handle_wrong _ _ _ (record { short = record { flywheel_short = c.if-flywheel-gt-MAX_TRACE.false; handle_short = c.if-handle-gt-MAX_TRACE.false }; some = omega (arith, c.if-width-eq0.false); most = c.if-width-gt-MAX_WIDTH.false }) (sym c.fault-first.ensures.value ∙ c.if-first-ne0.false) _ c.fault-second.ensures.value c.if-second-ne0.true in record { value = p.0; checks = p.1 }

pub returns-then-not-are_verdicts : goal.returns-then-not-are_verdicts
unfolding is_judged line_count
returns-then-not-are_verdicts c = let p = flywheel_unjudged _ _ _ (record { short = record { flywheel_short = c.if-flywheel-gt-MAX_TRACE.false; handle_short = c.if-handle-gt-MAX_TRACE.false }; some = omega (arith, c.if-width-eq0.false); most = c.if-width-gt-MAX_WIDTH.false }) (sym c.fault-first.ensures.value ∙ c.if-first-ne0.false) (sym c.fault-second.ensures.value ∙ c.if-second-ne0.false)
    (sym c.are_verdicts.ensures ∙ not-true _ c.if-not-are_verdicts.true-raw) in record { value = p.0; checks = p.1 }

pub returns-then-not-are_verdicts-2 : goal.returns-then-not-are_verdicts-2
unfolding is_judged line_count
returns-then-not-are_verdicts-2 c = let p = handle_unjudged _ _ _ (record { short = record { flywheel_short = c.if-flywheel-gt-MAX_TRACE.false; handle_short = c.if-handle-gt-MAX_TRACE.false }; some = omega (arith, c.if-width-eq0.false); most = c.if-width-gt-MAX_WIDTH.false }) (sym c.fault-first.ensures.value ∙ c.if-first-ne0.false) (sym c.fault-second.ensures.value ∙ c.if-second-ne0.false)
    (sym c.are_verdicts-2.ensures ∙ not-true _ c.if-not-are_verdicts-2.true-raw) in record { value = p.0; checks = p.1 }

pub returns : goal.returns
unfolding is_judged line_count
returns c = let p = nothing-wrong _ _ _ (record { short = record { flywheel_short = c.if-flywheel-gt-MAX_TRACE.false; handle_short = c.if-handle-gt-MAX_TRACE.false }; some = omega (arith, c.if-width-eq0.false); most = c.if-width-gt-MAX_WIDTH.false }) (sym c.fault-first.ensures.value ∙ c.if-first-ne0.false) (sym c.fault-second.ensures.value ∙ c.if-second-ne0.false)
    (sym c.are_verdicts.ensures ∙ not-false _ c.if-not-are_verdicts.false-raw)
    (sym c.are_verdicts-2.ensures ∙ not-false _ c.if-not-are_verdicts-2.false-raw) in record { value = p.0; checks = p.1 }
