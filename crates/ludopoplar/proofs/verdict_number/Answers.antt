-- `verdict_number` meets its contract, case by case. Assumes nothing.
use Rattle.ludopoplar.specs.Runs.{verdict_number}
use Rattle.ludopoplar.proofs.verdict_number.Goals as goal

pub returns-in-Accepted : goal.returns-in-Accepted
unfolding verdict_number
returns-in-Accepted c = rw c.in-Accepted.is

pub returns-in-Rejected : goal.returns-in-Rejected
unfolding verdict_number
returns-in-Rejected c = rw c.in-Rejected.is
