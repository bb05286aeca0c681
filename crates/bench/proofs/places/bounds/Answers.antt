-- `bench::places::bounds` meets its contract. Assumes nothing.
use Prim.Native.Nat.{◌/◌}
use native.Mathlib.Omega.{arith}
use Rattle.bench_turns.proofs.PartLaws.{under}
use Rattle.bench.proofs.places.bounds.Goals as goal

pub overflow_mul-at : goal.overflow_mul-at
overflow_mul-at c = omega (arith, under c.args.k 8 (c.args.length / 8) c.requires)

pub overflow_add-result : goal.overflow_add-result
overflow_add-result c = omega (arith, under c.args.k 8 (c.args.length / 8) c.requires)
