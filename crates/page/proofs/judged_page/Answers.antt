-- `judged_page` meets its contract: a judgement with a byte for each cycle is printed. Assumes nothing.
use mathlib.Core.List.{List}
use Prim.Native.Nat.{ℕ}
use native.Mathlib.Omega.{arith}
use Rattle.calls.specs.declared.tally.Tally.{Tally}
use Rattle.simulator.specs.declared.outcome.Verdict.{Verdict}
use Rattle.judge.proofs.EndLaws.{done_within}
use Rattle.page_text.specs.Lines.{report}
use Rattle.page.specs.Pages.{judgement, trace_page}
use Rattle.page.proofs.AnswerLaws.{answer_text, judged-text}
use Rattle.page.proofs.judged_page.Goals as goal

-- what a page shows of a judgement
abbrev shown : Tally → Verdict → List ℕ → List ℕ
shown t v bytes = report bytes t.cycles t.rejected v

pub slice_bounds-verdicts-end : goal.slice_bounds-verdicts-end
slice_bounds-verdicts-end c =
    omega (arith, done_within c.args.graph.now c.args.trace.now _ c.judge.ensures.verdicts_after c.in-Ok.is)

pub returns-in-Ok : goal.returns-in-Ok
unfolding answer_text trace_page judgement
returns-in-Ok c =
    let page = judged-text shown c.args.graph.now c.args.trace.now _ (omega (arith, c.requires)) (omega (arith, c.requires)) c.judge.ensures.verdicts_after in
    rw (rw c.in-Ok.is at page) at c.report_page.ensures

pub returns-in-Err : goal.returns-in-Err
unfolding answer_text trace_page judgement
returns-in-Err c =
    let page = judged-text shown c.args.graph.now c.args.trace.now _ (omega (arith, c.requires)) (omega (arith, c.requires)) c.judge.ensures.verdicts_after in
    rw (c.refusal.ensures, rw c.in-Err.is at page) at c.refused_page.ensures
