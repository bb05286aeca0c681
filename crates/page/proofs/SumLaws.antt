-- The verdict on a page that is no refusal: `rejected` exactly if some path condemns one of the cycles. Assumes nothing.
use mathlib.Core.Bool.{false}
use mathlib.Core.Path.{◌≡◌, refl}
use mathlib.Core.Logic.{inl, inr}
use mathlib.Core.List.{List, []}
use borrow.Author.Tests.{le-leb}
use lib.ListN.{length}
use Rattle.text.specs.Quoted.{bytes}
use Rattle.assertion.specs.Graph.{Bytes, Graph}
use Rattle.assertion.specs.Paths.{verdicts, count_rejected}
use Rattle.trace.specs.Traces.{cycles_of}
use Rattle.simulator.specs.declared.outcome.Verdict.{Verdict}
use Rattle.simulator.specs.declared.outcome.Verdict.TheVariants.{Accepted, Rejected}
use Rattle.simulator.specs.Run.{verdict_of}
use Rattle.simulator.proofs.VerdictLaws.{accepted-rejected}
use Rattle.demand.specs.Demand.{VerdictOfPaths}
use Rattle.demand.proofs.Held.{verdicts-length}
use Rattle.demand.proofs.Verdicts.{verdict_of-paths}
use Rattle.builder.specs.Build.{variables_of}
use Rattle.judge.specs.Judge.{inputs_of}
use Rattle.page_text.specs.Parts.{trace_part}
use Rattle.page_text.specs.Lines.{verdict_field, sum_line, report}
use Rattle.page.specs.Pages.{graph_page, judgement, trace_page, monitor_text, SumMeans, JudgementMeans}

-- a page with the verdict that paths give
sum-means : (g : Graph) (cycles : List Bytes) (page : Bytes) (v : Verdict) → VerdictOfPaths g [] cycles v
    → page ≡ report (verdicts g [] cycles) (length cycles) (count_rejected g cycles) v → SumMeans g cycles page
unfolding report sum_line verdict_field
sum-means g cycles page Rejected p e = record { word = bytes "\trejected\n"; whole = rw (verdicts-length g [] cycles) at e; told = inl (refl, p.some refl) }
sum-means g cycles page Accepted p e = record { word = bytes "\taccepted\n"; whole = rw (verdicts-length g [] cycles) at e; told = inr (refl, λ s. accepted-rejected (p.any s)) }

pub judgement-means : (input : Bytes) → JudgementMeans input
unfolding monitor_text graph_page trace_page judgement
judgement-means input g short read small right =
    let cycles = cycles_of (inputs_of g) (trace_part input) in
    sum-means g cycles (monitor_text input) (verdict_of (verdicts g [] cycles)) (verdict_of-paths g [] cycles)
    (rw (le-leb (length input) 65536 short, read, le-leb (variables_of false g) 4095 small, right) refl)
