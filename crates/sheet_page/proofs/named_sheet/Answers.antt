-- `named_sheet` meets its contract: a judgement of its two parts, with a byte for each cycle, is laid out. Assumes nothing.
use mathlib.Core.List.{List}
use Prim.Native.Nat.{ℕ}
use native.Mathlib.Omega.{arith}
use lib.ListN.{length-take}
use Rattle.calls.specs.declared.tally.Tally.{Tally}
use Rattle.simulator.specs.declared.outcome.Verdict.{Verdict}
use Rattle.judge.proofs.EndLaws.{done_within}
use Rattle.page.proofs.AnswerLaws.{answer_text, judged-text}
use Rattle.session_text.specs.Pages.{session_page}
use Rattle.sheet_page.specs.Sheets.{trace_sheet}
use Rattle.sheet_page.proofs.JudgedLaws.{done_printable}
use Rattle.sheet_page.proofs.named_sheet.Goals as goal

-- what a sheet shows of a judgement
abbrev shown : List ℕ → Tally → Verdict → List ℕ → List ℕ
shown name t v bytes = session_page name bytes

pub slice_bounds-verdicts-end : goal.slice_bounds-verdicts-end
slice_bounds-verdicts-end c =
    omega (arith, done_within c.graph_and_trace.result.0.now c.graph_and_trace.result.1.now _ c.judge.ensures.verdicts_after c.in-Ok.is)

pub laid_page-requires : goal.laid_page-requires
laid_page-requires c =
    let few = done_within c.graph_and_trace.result.0.now c.graph_and_trace.result.1.now _ c.judge.ensures.verdicts_after c.in-Ok.is in (
      done_printable c.graph_and_trace.result.0.now c.graph_and_trace.result.1.now _ (omega (arith, c.requires, c.graph_and_trace.ensures.within)) (omega (arith, c.requires, c.graph_and_trace.ensures.within)) c.args.name.now c.judge.ensures.verdicts_after c.in-Ok.is c.requires.0,
      rw length-take (omega (arith, few)),
    )

pub returns-in-Ok : goal.returns-in-Ok
unfolding answer_text trace_sheet
returns-in-Ok c =
    let page = judged-text (shown c.args.name.now) c.graph_and_trace.result.0.now c.graph_and_trace.result.1.now _ (omega (arith, c.requires, c.graph_and_trace.ensures.within)) (omega (arith, c.requires, c.graph_and_trace.ensures.within)) c.judge.ensures.verdicts_after in
    rw (rw c.in-Ok.is at page, c.graph_and_trace.ensures.graph, c.graph_and_trace.ensures.trace) at c.laid_page.ensures

pub returns-in-Err : goal.returns-in-Err
unfolding answer_text trace_sheet
returns-in-Err c =
    let page = judged-text (shown c.args.name.now) c.graph_and_trace.result.0.now c.graph_and_trace.result.1.now _ (omega (arith, c.requires, c.graph_and_trace.ensures.within)) (omega (arith, c.requires, c.graph_and_trace.ensures.within)) c.judge.ensures.verdicts_after in
    rw (c.refusal.ensures, rw c.in-Err.is at page, c.graph_and_trace.ensures.graph, c.graph_and_trace.ensures.trace) at c.refused_page.ensures
