-- `trace_number` meets its contract, case by case. Assumes nothing.
use Rattle.ludopoplar.specs.Sessions.{trace_number}
use Rattle.ludopoplar.proofs.trace_number.Goals as goal

pub returns-in-Flywheel : goal.returns-in-Flywheel
unfolding trace_number
returns-in-Flywheel c = rw c.in-Flywheel.is

pub returns-in-Handle : goal.returns-in-Handle
unfolding trace_number
returns-in-Handle c = rw c.in-Handle.is
