-- `bench::turn` meets its contract. Assumes nothing.
use mathlib.Core.Path.{sym, ◌∙◌}
use borrow.Author.Tests.{not-true, not-false}
use Rattle.bench_turns.proofs.MeansLaws.{turn_claims}
use Rattle.bench.proofs.ServeLaws.{not-bench, enough_numbers, nothing-waits}
use Rattle.bench.proofs.RoundLaws.{told-some, told-none}
use Rattle.bench.proofs.turn.Goals as goal

pub returns-then-not-is_bench : goal.returns-then-not-is_bench
returns-then-not-is_bench c =
    let e = not-bench c.args.nets.now c.args.latches.now c.args.values.now c.args.queues.now c.args.bench.now (sym c.is_bench.ensures ∙ not-true _ c.if-not-is_bench.true-raw) in
    let p = turn_claims _ _ _ _ _ _ e in
    record { bench_after = e; serves = p.0; bench = p.1 }

pub next_machine-requires : goal.next_machine-requires
next_machine-requires c =
    enough_numbers c.args.nets.now c.args.latches.now c.args.values.now c.args.queues.now c.args.bench.now (sym c.is_bench.ensures ∙ not-false _ c.if-not-is_bench.false-raw)

pub returns-in-None : goal.returns-in-None
returns-in-None c =
    let e = nothing-waits c.args.nets.now c.args.latches.now c.args.values.now c.args.queues.now c.args.bench.now (sym c.is_bench.ensures ∙ not-false _ c.if-not-is_bench.false-raw) (told-none _ (sym c.next_machine.ensures ∙ c.in-None.is)) in
    let p = turn_claims _ _ _ _ _ _ e in
    record { bench_after = e; serves = p.0; bench = p.1 }

pub serve-requires : goal.serve-requires
serve-requires c =
    let e = sym c.is_bench.ensures ∙ not-false _ c.if-not-is_bench.false-raw in
    let t = told-some _ _ (sym c.next_machine.ensures ∙ c.in-Some.is) in
    record { k_next = t; bench_value = e }

pub returns-in-Some : goal.returns-in-Some
returns-in-Some c =
    let e = c.serve.ensures in
    let p = turn_claims _ _ _ _ _ _ e in
    record { bench_after = e; serves = p.0; bench = p.1 }
