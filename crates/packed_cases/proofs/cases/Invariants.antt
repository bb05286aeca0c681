-- `cases` ends: what is left gets shorter with each case.
use lib.ListN.{length}
use Rattle.packed_cases.proofs.cases.Given as goal

abbrev pub decreases-loop-size : goal.decreases-loop-size
decreases-loop-size g l = length l.rest
