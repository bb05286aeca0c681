-- `ludo_run_checked` meets its contract: `run` answers what `run_of` gives, the tally too, each case of the outcome fixes
-- code and verdict. Assumes nothing.
use Rattle.ludopoplar.specs.Runs.{run_code, verdict_after}
use Rattle.ludopoplar.specs.CheckedRuns.{run_checked_call}
use Rattle.ludopoplar.proofs.CallLaws.{runs}
use Rattle.ludopoplar.proofs.checked.ludo_run_checked.Goals as goal

pub returns-in-Ok : goal.returns-in-Ok
unfolding run_checked_call run_code verdict_after
returns-in-Ok c = record {
  verdict_after = rw (← c.run-ran.ensures.verdicts_after, c.in-Ok.is, c.verdict_number.ensures);
  runs = runs _ _ _ _ _ _ _ _ c.run-ran.ensures.trace
      (rw (← c.run-ran.ensures.verdicts_after, c.in-Ok.is, c.verdict_number.ensures));
}

pub returns-in-Err : goal.returns-in-Err
unfolding run_checked_call run_code verdict_after
returns-in-Err c = record {
  verdict_after = rw (← c.run-ran.ensures.verdicts_after, c.in-Err.is, c.code.ensures, c.refusal.ensures);
  runs = runs _ _ _ _ _ _ _ _ c.run-ran.ensures.trace
      (rw (← c.run-ran.ensures.verdicts_after, c.in-Err.is, c.code.ensures, c.refusal.ensures));
}
