-- `ludo_start` meets its contract: `start` answers what `start_of` gives, the tally too, and each case of the outcome
-- fixes the code. Assumes nothing.
use Rattle.ludopoplar.specs.Runs.{start_code, start_call}
use Rattle.ludopoplar.proofs.CallLaws.{starts}
use Rattle.ludopoplar.proofs.ludo_start.Goals as goal

pub returns-in-Ok : goal.returns-in-Ok
unfolding start_call start_code
returns-in-Ok c = record {
  rejected_after = rw (← c.start-started.ensures.latches_after, c.in-Ok.is);
  starts = starts _ _ _ _ c.start-started.ensures.computed
      (rw (← c.start-started.ensures.latches_after, c.in-Ok.is));
}

pub returns-in-Err : goal.returns-in-Err
unfolding start_call start_code
returns-in-Err c = record {
  rejected_after = rw (← c.start-started.ensures.latches_after, c.in-Err.is, c.code.ensures, c.refusal.ensures);
  starts = starts _ _ _ _ c.start-started.ensures.computed
      (rw (← c.start-started.ensures.latches_after, c.in-Err.is, c.code.ensures, c.refusal.ensures));
}
