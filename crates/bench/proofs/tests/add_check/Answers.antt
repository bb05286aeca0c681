-- `bench::tests::add_check` meets its contract. Assumes nothing.
use mathlib.Core.Path.{sym, ◌∙◌}
use native.Mathlib.Omega.{arith}
use borrow.Author.Tests.{not-true, not-false}
use Rattle.bench.proofs.TestLaws.{no_machine, no_bench}
use Rattle.bench.proofs.tests.add_check.Goals as goal

pub returns-then-machine-gt7 : goal.returns-then-machine-gt7
returns-then-machine-gt7 c =
    no_machine c.args.nets.now c.args.latches.now c.args.queues.now c.args.bench.now c.args.machine c.args.cycle.now c.if-machine-gt7.true

pub returns-then-not-is_bench : goal.returns-then-not-is_bench
returns-then-not-is_bench c =
    no_bench c.args.nets.now c.args.latches.now c.args.queues.now c.args.bench.now c.args.machine c.args.cycle.now c.if-machine-gt7.false (sym c.is_bench.ensures ∙ not-true _ c.if-not-is_bench.true-raw)

pub machine_check-requires : goal.machine_check-requires
machine_check-requires c = record { k_bound = omega (arith, c.if-machine-gt7.false); bench_value = sym c.is_bench.ensures ∙ not-false _ c.if-not-is_bench.false-raw }
