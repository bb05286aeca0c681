-- After each case fewer bytes are left.
use Rattle.std.proofs.Common.{length, ◌-◌}
use Rattle.broken_cases.proofs.cases.Given as goal

abbrev pub decreases-loop-at : goal.decreases-loop-at
decreases-loop-at g l = length l.input - l.at
