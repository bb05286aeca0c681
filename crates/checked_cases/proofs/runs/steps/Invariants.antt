-- Each line ends after it starts.
use Rattle.std.proofs.Common.{◌-◌, length}
use Rattle.checked_cases.proofs.runs.steps.Given as goal

abbrev pub decreases-loop-at : goal.decreases-loop-at
decreases-loop-at g l = length l.trace - l.at
