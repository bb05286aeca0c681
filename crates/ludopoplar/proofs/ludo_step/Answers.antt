-- `ludo_step` meets its contract: `step` answers what `step_of` gives, the tally too, and each case of the outcome
-- fixes code and word. Assumes nothing.
use Rattle.ludopoplar.specs.Runs.{step_code, word_after, step_call}
use Rattle.ludopoplar.proofs.CallLaws.{steps}
use Rattle.ludopoplar.proofs.ludo_step.Goals as goal

pub returns-in-Ok : goal.returns-in-Ok
unfolding step_call step_code word_after
returns-in-Ok c = record {
  word_after = rw (← c.step-stepped.ensures.values_after, c.in-Ok.is);
  steps = steps _ _ _ _ _ _ _ _ _ c.step-stepped.ensures.values_after c.step-stepped.ensures.counts
      (rw (← c.step-stepped.ensures.values_after, c.in-Ok.is));
}

pub returns-in-Err : goal.returns-in-Err
unfolding step_call step_code word_after
returns-in-Err c = record {
  word_after = rw (← c.step-stepped.ensures.values_after, c.in-Err.is, c.code.ensures, c.refusal.ensures);
  steps = steps _ _ _ _ _ _ _ _ _ c.step-stepped.ensures.values_after c.step-stepped.ensures.counts
      (rw (← c.step-stepped.ensures.values_after, c.in-Err.is, c.code.ensures, c.refusal.ensures));
}
