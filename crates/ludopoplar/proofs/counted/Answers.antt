-- `counted` meets its contract, case by case. Assumes nothing.
use Rattle.ludopoplar.specs.Private.Counts.{counted_code, counted_after}
use Rattle.ludopoplar.proofs.counted.Goals as goal

pub returns-in-Ok : goal.returns-in-Ok
unfolding counted_code counted_after
returns-in-Ok c = record { code = rw c.in-Ok.is; count = rw c.in-Ok.is }

pub returns-in-Err : goal.returns-in-Err
unfolding counted_code counted_after
returns-in-Err c = record { code = rw (c.in-Err.is, c.code.ensures); count = rw c.in-Err.is }
