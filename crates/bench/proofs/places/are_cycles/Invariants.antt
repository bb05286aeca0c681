-- `bench::places::are_cycles` meets its contract. Assumes nothing.
use mathlib.Core.Path.{◌≡◌}
use Rattle.bench_turns.specs.Parts.{cycles_in, are_cycles}
use Rattle.bench.proofs.QueueLaws.{are_from}
use Rattle.bench.proofs.places.are_cycles.Given as goal

abbrev pub invariant-loop-j : goal.invariant-loop-j
invariant-loop-j l = are_from l.inputs l.j l.n l.queue ≡ are_cycles l.inputs (cycles_in l.inputs l.n l.queue)
