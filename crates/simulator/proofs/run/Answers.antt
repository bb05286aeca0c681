-- `simulator::run` meets its contract. Assumes nothing.
use mathlib.Core.Path.{sym, ◌∙◌}
use Rattle.simulator.proofs.RunLaws.{run-refused}
use Rattle.simulator.proofs.RunTrace.{trace_of_run}
use Rattle.simulator.proofs.RunSteps.{run-is-steps}
use Rattle.simulator.proofs.VerdictLaws.{verdict-means}
use Rattle.simulator.proofs.run.Goals as goal

pub run_cycles-requires : goal.run_cycles-requires
run_cycles-requires c = sym c.run_check-tested.ensures ∙ c.in-Ok.is

pub returns-in-Err : goal.returns-in-Err
returns-in-Err c =
    let e = run-refused c.args.net.now c.args.trace.now c.args.latches.now c.args.values.now c.args.verdicts.now c.args.tally _ _ c.run_check-tested.ensures c.in-Err.is in
    record { verdicts_after = e; trace = trace_of_run _ _ _ _ _ _; steps = run-is-steps _ _ _ _ _ _; verdict = verdict-means _ _ _ _ _ _ _ e }

pub returns-in-Ok : goal.returns-in-Ok
returns-in-Ok c =
    let e = c.run_cycles.ensures in
    record { verdicts_after = e; trace = trace_of_run _ _ _ _ _ _; steps = run-is-steps _ _ _ _ _ _; verdict = verdict-means _ _ _ _ _ _ _ e }
