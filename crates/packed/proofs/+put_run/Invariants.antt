-- `put_run` meets its contract; the number falls. Assumes nothing.
use Rattle.packed.proofs.+put_run.Given as goal

abbrev pub decreases-put_run : goal.decreases-put_run
decreases-put_run l = l.n
