-- A sum stays below the prime.
use Rattle.std.proofs.Common.{◌-◌, ◌<◌, length}
use Rattle.checked_cases.proofs.netlists.sum_of.Given as goal

abbrev pub invariant-loop-b : goal.invariant-loop-b
invariant-loop-b l = l.sum < 4294967291
