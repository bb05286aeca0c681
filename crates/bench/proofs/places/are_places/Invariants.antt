-- `bench::places::are_places` meets its contract. Assumes nothing.
use mathlib.Core.Path.{◌≡◌}
use mathlib.Core.Bool.{true}
use Prim.Native.Nat.{ℕ, ◌<◌}
use Rattle.bench_turns.specs.Parts.{part_of}
use Rattle.bench_turns.specs.Numbers.{waiting_of, is_place}
use Rattle.bench.proofs.places.are_places.Given as goal

abbrev pub invariant-loop-k : goal.invariant-loop-k
invariant-loop-k l = (j : ℕ) → j < l.k → is_place (part_of j l.nets) (waiting_of j l.bench) (part_of j l.queues) ≡ true
