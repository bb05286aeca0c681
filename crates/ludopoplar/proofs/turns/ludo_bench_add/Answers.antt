-- `ludo_bench_add` meets its contract: each case of the answer fixes code and results. Assumes nothing.
use Rattle.ludopoplar.proofs.BenchLaws.{call_adds, add-waiting, add-refused, add-ends}
use Rattle.ludopoplar.proofs.turns.ludo_bench_add.Goals as goal

pub returns-in-Ok : goal.returns-in-Ok
returns-in-Ok c =
    let a = c.add-added in
    let e = add-ends c.args.nets.now c.args.latches.now c.args.queues.now c.args.bench.now c.args.machine c.args.cycle.now a.result _ _ a.ensures.bench_after 0 (add-waiting a.result c.in-Ok.is) in
    record { bench_after = e; adds = call_adds _ _ _ _ _ _ _ e; bench = a.ensures.bench }

pub returns-in-Err : goal.returns-in-Err
returns-in-Err c =
    let a = c.add-added in
    let e = add-ends c.args.nets.now c.args.latches.now c.args.queues.now c.args.bench.now c.args.machine c.args.cycle.now a.result _ _ a.ensures.bench_after _ (add-refused a.result _ c.in-Err.is _ c.refusal.ensures _ c.code.ensures) in
    record { bench_after = e; adds = call_adds _ _ _ _ _ _ _ e; bench = a.ensures.bench }
