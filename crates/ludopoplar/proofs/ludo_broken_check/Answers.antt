-- `ludo_broken_check` meets its contract: `check` answers what `check_of` gives, and each case of the answer fixes the
-- code. Assumes nothing.
use Rattle.ludopoplar.specs.Sessions.{check_code}
use Rattle.ludopoplar.proofs.SessionLaws.{checked}
use Rattle.ludopoplar.proofs.ludo_broken_check.Goals as goal

pub returns-in-Ok : goal.returns-in-Ok
unfolding check_code
returns-in-Ok c = let p = checked _ _ _ c.check-checked.result c.check-checked.ensures.value c.check-checked.ensures.checks _ (rw c.in-Ok.is) in record { value = p.0; checks = p.1 }

pub returns-in-Err : goal.returns-in-Err
unfolding check_code
returns-in-Err c = let p = checked _ _ _ c.check-checked.result c.check-checked.ensures.value c.check-checked.ensures.checks _
    (rw (c.in-Err.is, c.code.ensures, c.refusal.ensures)) in record { value = p.0; checks = p.1 }
