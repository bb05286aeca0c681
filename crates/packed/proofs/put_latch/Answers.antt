-- `put_latch` meets its contract. Assumes nothing.
use Rattle.packed.specs.Format.{packed_latch}
use Rattle.packed.proofs.put_latch.Goals as goal

pub returns : goal.returns
unfolding packed_latch
returns c = c.put_latch_row.ensures
