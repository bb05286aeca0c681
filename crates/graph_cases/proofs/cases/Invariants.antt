-- Each case ends after it starts.
use Rattle.std.proofs.Common.{◌-◌, length}
use Rattle.graph_cases.proofs.cases.Given as goal

abbrev pub decreases-loop-case : goal.decreases-loop-case
decreases-loop-case g l = length l.input - l.at
