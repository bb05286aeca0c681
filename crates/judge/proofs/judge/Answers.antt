-- `judge` meets its contract: a build into numbers that are enough is refused or run. Assumes nothing.
use native.Mathlib.Omega.{arith}
use Rattle.std.proofs.lemmas.Result.{err_from_is_err_and}
use Rattle.judge.proofs.JudgedLaws.{refused-judged, made_judged}
use Rattle.judge.proofs.ClaimLaws.{ends}
use Rattle.judge.proofs.judge.Goals as goal

pub returns-in_err-build : goal.returns-in_err-build
returns-in_err-build c =
    let text = c.args.graph.now in
    let trace = c.args.trace.now in
    let bytes = c.args.verdicts.now in
    let refused = refused-judged text trace bytes c.build.ensures.demand c.build.ensures.net_after (omega arith) c.in_err-build.was in
    let err = err_from_is_err_and c.from_residual.result c.from_residual.ensures.1 in
    let p = ends text trace bytes (rw (err.1, err.2) refused) in record { verdicts_after = p.0; paths = p.1.0; judges = p.1.1 }

pub returns : goal.returns
returns c =
    let text = c.args.graph.now in
    let trace = c.args.trace.now in
    let bytes = c.args.verdicts.now in
    let judged = made_judged text trace bytes c.build.ensures.demand c.build.ensures.net_after (omega arith) c.in_ok-build.was in
    let p = ends text trace bytes (rw judged at c.judged_run.ensures) in record { verdicts_after = p.0; paths = p.1.0; judges = p.1.1 }
