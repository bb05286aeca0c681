-- `bench::numbers::next_machine` meets its contract. Assumes nothing.
use mathlib.Core.Path.{sym, ◌∙◌}
use native.Mathlib.Omega.{arith}
use Rattle.bench.proofs.RoundLaws.{round_first, round_none, round_here, round_later, round-some, round-idle}
use Rattle.bench.proofs.numbers.next_machine.Goals as goal

pub loop-from-init : goal.loop-from-init
loop-from-init c = round_first c.args.bench.now

pub returns-then-bench-k-gt0 : goal.returns-then-bench-k-gt0
returns-then-bench-k-gt0 c =
    round-some c.args.bench.now _ (omega arith) (sym (round_here c.loop-from.from _ c.args.bench.now c.loop-from-test.true c.if-bench-k-gt0.true) ∙ c.loop-from.invariant)

pub loop-from-preserved : goal.loop-from-preserved
loop-from-preserved c =
    sym (round_later c.loop-from.from _ c.args.bench.now c.loop-from-test.true c.if-bench-k-gt0.false) ∙ c.loop-from.invariant

pub returns : goal.returns
returns c = round-idle c.args.bench.now (sym (round_none c.loop-from.from _ c.args.bench.now c.loop-from-test.false) ∙ c.loop-from.invariant)
