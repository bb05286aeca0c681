-- `bench::queues::place` meets its contract. Assumes nothing.
use Rattle.bench.proofs.QueueLaws.{placed-is}
use Rattle.bench.proofs.queues.place.Goals as goal

pub returns : goal.returns
returns c = placed-is c.args.n c.args.cycle.now c.args.queue.now _ c.copy_from_slice.ensures.after
