-- `bench::queues::shift` meets its contract. Assumes nothing.
use Rattle.bench.proofs.QueueLaws.{shifted-is}
use Rattle.bench.proofs.queues.shift.Goals as goal

pub returns : goal.returns
returns c = shifted-is c.args.n c.args.queue.now _ c.copy_within.ensures.after
