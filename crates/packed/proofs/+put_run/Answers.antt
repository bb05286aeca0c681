-- `put_run` meets its contract; the number falls. Assumes nothing.
use Rattle.text.proofs.WritingLaws.{then}
use Rattle.packed.proofs.RunLaws.{run_small, run_more}
use Rattle.packed.proofs.+put_run.Goals as goal

pub returns-then-n-lt128 : goal.returns-then-n-lt128
returns-then-n-lt128 t c = rw (run_small _ c.if-n-lt128.true) c.byte.ensures

pub returns-else-n-lt128 : goal.returns-else-n-lt128
returns-else-n-lt128 t c = rw (run_more _ c.if-n-lt128.false) (then c.byte-else-n-lt128.ensures c.put_run.ensures)
