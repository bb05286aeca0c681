-- `run_at` meets its contract. Assumes nothing.
use Rattle.packed_read.specs.Runs.{run_at}
use Rattle.packed_read.proofs.runs.run_at.Goals as goal

pub returns : goal.returns
unfolding run_at
returns c = c.bytes_at.ensures
