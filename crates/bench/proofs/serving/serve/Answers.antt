-- `bench::serving::serve` meets its contract. Assumes nothing.
use mathlib.Core.Path.{◌≡◌}
use native.Mathlib.Omega.{arith}
use borrow.Author.Rules.{rules}
use Rattle.std.specs.Prelude.{Err}
use Rattle.bench_turns.specs.Refusals.{cause_of}
use Rattle.bench.proofs.ServeLaws.{machine, some, slots, refuses, serves, enough_numbers}
use Rattle.bench.proofs.serving.serve.Goals as goal

pub step_machine-stepped-requires : goal.step_machine-stepped-requires
step_machine-stepped-requires c =
    let x = c.args in
    let m = machine x.nets.now x.latches.now x.values.now x.queues.now x.bench.now c.requires.bench_value x.k c.requires.k_next.0 c.requires.k_next.1 in
    let s = some x.nets.now x.latches.now x.values.now x.queues.now x.bench.now c.requires.bench_value x.k c.requires.k_next.0 c.requires.k_next.1 in
    record { k_bound = (m, s); bench_value = c.requires.bench_value }

pub leave-requires : goal.leave-requires
leave-requires c =
    let x = c.args in
    let m = machine x.nets.now x.latches.now x.values.now x.queues.now x.bench.now c.requires.bench_value x.k c.requires.k_next.0 c.requires.k_next.1 in
    let n = enough_numbers x.nets.now x.latches.now x.values.now x.queues.now x.bench.now c.requires.bench_value in
    let s = some x.nets.now x.latches.now x.values.now x.queues.now x.bench.now c.requires.bench_value x.k c.requires.k_next.0 c.requires.k_next.1 in
    let l = slots x.nets.now x.latches.now x.values.now x.queues.now x.bench.now c.requires.bench_value x.k c.requires.k_next.0 c.requires.k_next.1 in
    (m, n.0, s, l)

pub overflow_cast-result : goal.overflow_cast-result
overflow_cast-result c =
    let x = c.args in
    omega (arith, machine x.nets.now x.latches.now x.values.now x.queues.now x.bench.now c.requires.bench_value x.k c.requires.k_next.0 c.requires.k_next.1)

pub returns-in_err-word : goal.returns-in_err-word
returns-in_err-word c =
    let x = c.args in
    let m = c.step_machine-stepped in
    let q : c.from_residual.result ≡ Err (cause_of c.in_err-word.field-0.0) = search rules in
    rw q (refuses x.nets.now x.latches.now x.values.now x.queues.now x.bench.now c.requires.bench_value x.k c.requires.k_next.0 c.requires.k_next.1 m.result m.new.latches m.new.values m.ensures.0 m.ensures.1 m.ensures.2 _ c.in_err-word.was)

pub returns : goal.returns
returns c =
    let x = c.args in
    let m = c.step_machine-stepped in
    let l = c.leave in
    serves x.nets.now x.latches.now x.values.now x.queues.now x.bench.now c.requires.bench_value x.k c.requires.k_next.0 c.requires.k_next.1 m.result m.new.latches m.new.values m.ensures.0 m.ensures.1 m.ensures.2 _ _ c.in_ok-word.was _ _ l.ensures.0 l.ensures.1
