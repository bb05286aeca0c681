-- `monitor_page` meets its contract: the input is too long, or it is judged by its two parts. Assumes nothing.
use native.Mathlib.Omega.{arith}
use Rattle.assertion.proofs.PathLaws.{paths_mean}
use Rattle.page.proofs.PageLaws.{long-text, short-text}
use Rattle.page.proofs.SumLaws.{judgement-means}
use Rattle.page.proofs.LengthLaws.{monitor_fits}
use Rattle.page.proofs.monitor_page.Goals as goal

pub returns-then-input-gt-MAX_INPUT : goal.returns-then-input-gt-MAX_INPUT
returns-then-input-gt-MAX_INPUT c =
    let s = c.args.input.now in
    record { out_after = rw (long-text s (omega arith)) (rw c.refusal.ensures at c.refused_page.ensures); fits = monitor_fits s; paths = paths_mean; verdict = judgement-means s }

pub returns : goal.returns
returns c =
    let s = c.args.input.now in
    let page = rw (c.graph_and_trace.ensures.graph, c.graph_and_trace.ensures.trace) at c.judged_page.ensures in
    record { out_after = rw (short-text s (omega arith)) page; fits = monitor_fits s; paths = paths_mean; verdict = judgement-means s }
