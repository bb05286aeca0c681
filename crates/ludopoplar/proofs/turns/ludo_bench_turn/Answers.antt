-- `ludo_bench_turn` meets its contract: each case of the answer fixes code and results. Assumes nothing.
use Rattle.ludopoplar.proofs.BenchLaws.{call_turns, turn_idle, turn_served, turn_refused, turn_ends}
use Rattle.ludopoplar.proofs.turns.ludo_bench_turn.Goals as goal

pub returns-in-Ok-None : goal.returns-in-Ok-None
returns-in-Ok-None c =
    let t = c.turn-turned in
    let e = turn_ends c.args.nets.now c.args.latches.now c.args.values.now c.args.queues.now c.args.bench.now c.args.served.now c.args.word.now c.args.checked_word.now t.result _ _ _ _ t.ensures.bench_after _ (turn_idle t.result _ _ _ _ _ _ _ _ c.in-Ok-None.is (rw c.in-Ok-None.is at c.in-Ok-None.field-0-is)) in
    record { checked_word_after = e; turns = call_turns _ _ _ _ _ _ _ _ _ e; bench = t.ensures.bench }

pub returns-in-Ok-Some : goal.returns-in-Ok-Some
returns-in-Ok-Some c =
    let t = c.turn-turned in
    let e = turn_ends c.args.nets.now c.args.latches.now c.args.values.now c.args.queues.now c.args.bench.now c.args.served.now c.args.word.now c.args.checked_word.now t.result _ _ _ _ t.ensures.bench_after _ (turn_served t.result _ _ _ _ _ _ _ _ _ _ _ c.in-Ok-Some.is (rw c.in-Ok-Some.is at c.in-Ok-Some.field-0-is)) in
    record { checked_word_after = e; turns = call_turns _ _ _ _ _ _ _ _ _ e; bench = t.ensures.bench }

pub returns-in-Err : goal.returns-in-Err
returns-in-Err c =
    let t = c.turn-turned in
    let e = turn_ends c.args.nets.now c.args.latches.now c.args.values.now c.args.queues.now c.args.bench.now c.args.served.now c.args.word.now c.args.checked_word.now t.result _ _ _ _ t.ensures.bench_after _ (turn_refused t.result _ _ _ _ _ _ _ _ c.in-Err.is _ c.refusal.ensures _ c.code.ensures) in
    record { checked_word_after = e; turns = call_turns _ _ _ _ _ _ _ _ _ e; bench = t.ensures.bench }
