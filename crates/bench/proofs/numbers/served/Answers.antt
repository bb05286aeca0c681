-- `bench::numbers::served` meets its contract. Assumes nothing.
use native.Mathlib.Omega.{arith}
use lib.ListN.{length-set}
use Rattle.bench.proofs.numbers.served.Goals as goal

pub bounds-bench-at-2 : goal.bounds-bench-at-2
bounds-bench-at-2 c = simp length-set (omega arith)

pub bounds-bench-at-3 : goal.bounds-bench-at-3
bounds-bench-at-3 c = simp length-set (omega arith)

pub bounds-bench-at-4 : goal.bounds-bench-at-4
bounds-bench-at-4 c = simp length-set (omega arith)
