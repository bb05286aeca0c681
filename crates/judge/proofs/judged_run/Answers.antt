-- `judged_run` meets its contract. Assumes nothing.
use Rattle.std.proofs.lemmas.Result.{err_from_is_err_and}
use Rattle.judge.specs.Private.Machine.{outcome_judged}
use Rattle.judge.proofs.JudgedLaws.{machine_end_lem}
use Rattle.judge.proofs.judged_run.Goals as goal

pub returns-in_err-ran : goal.returns-in_err-ran
unfolding outcome_judged
returns-in_err-ran c =
    let ended = machine_end_lem c.args.net.now c.args.trace.now c.args.verdicts.now c.start-started.ensures.latches_after c.run-ran.ensures.verdicts_after in
    let err = err_from_is_err_and c.from_residual.result c.from_residual.ensures.1 in
    rw (err.1, err.2) (rw c.in_err-ran.was at ended)

pub returns : goal.returns
unfolding outcome_judged
returns c =
    rw c.in_ok-ran.was at (machine_end_lem c.args.net.now c.args.trace.now c.args.verdicts.now c.start-started.ensures.latches_after c.run-ran.ensures.verdicts_after)
