-- `bytes_at` meets its contract; what is left falls. Assumes nothing.
use Rattle.packed_read.proofs.runs.+bytes_at.Given as goal

abbrev pub decreases-bytes_at : goal.decreases-bytes_at
decreases-bytes_at l = l.left
