-- `bench::add` meets its contract. Assumes nothing.
use mathlib.Core.Path.{◌≡◌, ap, ◌∙◌}
use Rattle.std.specs.Prelude.{Err}
use Prim.Native.Nat.{ℕ, ◌+◌}
use native.Mathlib.Omega.{arith}
use borrow.Author.Rules.{rules}
use Rattle.bench_turns.specs.Parts.{part_of, with_part, placed}
use Rattle.bench_turns.specs.Numbers.{with_waiting}
use Rattle.bench_turns.proofs.MeansLaws.{add_claims}
use Rattle.bench.proofs.TestLaws.{placing, add-refuses, add-waits}
use Rattle.bench.proofs.add.Goals as goal

pub waiting-count-requires : goal.waiting-count-requires
waiting-count-requires c =
    let p = placing c.args.nets.now c.args.latches.now c.args.queues.now c.args.bench.now c.args.machine c.args.cycle.now _ c.add_check.ensures c.in_ok-add_check.was in
    (p.machine, p.numbers)

pub queue_up-requires : goal.queue_up-requires
queue_up-requires c =
    let p = placing c.args.nets.now c.args.latches.now c.args.queues.now c.args.bench.now c.args.machine c.args.cycle.now _ c.add_check.ensures c.in_ok-add_check.was in
    record { k_bound = p.machine; cycle_in_bounds = rw c.waiting-count.ensures p.slot }

pub overflow_add-bench : goal.overflow_add-bench
overflow_add-bench c =
    let p = placing c.args.nets.now c.args.latches.now c.args.queues.now c.args.bench.now c.args.machine c.args.cycle.now _ c.add_check.ensures c.in_ok-add_check.was in
    omega (arith, p.few, c.waiting-count.ensures)

pub bounds-bench-k : goal.bounds-bench-k
bounds-bench-k c =
    let p = placing c.args.nets.now c.args.latches.now c.args.queues.now c.args.bench.now c.args.machine c.args.cycle.now _ c.add_check.ensures c.in_ok-add_check.was in
    omega (arith, p.machine, p.numbers)

pub returns-in_err-add_check : goal.returns-in_err-add_check
returns-in_err-add_check c =
    let q : c.from_residual.result ≡ Err c.in_err-add_check.field-0.0 = search rules in
    let e = add-refuses c.args.nets.now c.args.latches.now c.args.queues.now c.args.bench.now c.args.machine c.args.cycle.now _ c.add_check.ensures _ c.in_err-add_check.was in
    let p = add_claims _ _ _ _ _ _ _ e in
    record { bench_after = rw q e; waits = rw q p.0; bench = p.1 }

pub returns : goal.returns
returns c =
    let w = c.waiting-count in
    let e = add-waits c.args.nets.now c.args.latches.now c.args.queues.now c.args.bench.now c.args.machine c.args.cycle.now _ c.add_check.ensures c.in_ok-add_check.was _ _ (c.queue_up.ensures ∙ ap (λ (z : ℕ). with_part c.args.machine (placed z c.args.cycle.now (part_of c.args.machine c.args.queues.now)) c.args.queues.now) w.ensures) (ap (λ (z : ℕ). with_waiting c.args.machine (z + 1) c.args.bench.now) w.ensures) in
    let p = add_claims _ _ _ _ _ _ _ e in
    record { bench_after = e; waits = p.0; bench = p.1 }
