-- `bench::places::is_bench` meets its contract. Assumes nothing.
use native.Mathlib.Omega.{arith}
use lib.ListN.{length}
use borrow.Author.Tests.{le-leb, lt-leb}
use Rattle.bench_turns.specs.Numbers.{is_bench}
use Rattle.bench.proofs.places.is_bench.Goals as goal

pub returns-then-bench-le-LAST : goal.returns-then-bench-le-LAST
unfolding is_bench
returns-then-bench-le-LAST c = rw (lt-leb 33 (length c.args.bench.now) (omega (arith, c.if-bench-le-LAST.true)))

pub returns-then-bench-gt7 : goal.returns-then-bench-gt7
unfolding is_bench
returns-then-bench-gt7 c = rw (le-leb 33 (length c.args.bench.now) (omega (arith, c.if-bench-le-LAST.false)), lt-leb _ 7 c.if-bench-gt7.true)

pub returns : goal.returns
unfolding is_bench
returns c = rw (le-leb 33 (length c.args.bench.now) (omega (arith, c.if-bench-le-LAST.false)), le-leb _ 7 c.if-bench-gt7.false) c.are_places.ensures
