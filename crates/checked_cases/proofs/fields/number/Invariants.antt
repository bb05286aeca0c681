-- A number is at most 4,294,967,295.
use Rattle.std.proofs.Common.{◌-◌, ◌≤◌, length}
use Rattle.checked_cases.proofs.fields.number.Given as goal

abbrev pub invariant-loop-i : goal.invariant-loop-i
invariant-loop-i l = l.value ≤ 4294967295

abbrev pub decreases-loop-i : goal.decreases-loop-i
decreases-loop-i l = length l.s - l.i
