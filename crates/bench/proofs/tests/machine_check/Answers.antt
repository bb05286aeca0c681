-- `bench::tests::machine_check` meets its contract. Assumes nothing.
use mathlib.Core.Path.{sym, ◌∙◌}
use borrow.Author.Tests.{not-true, not-false}
use Rattle.bench_turns.proofs.CheckLaws.{bench-ready}
use Rattle.bench.proofs.TestLaws.{queue-full, cycle-wrong, latches-short, slot_short, tally-full, all-passed}
use Rattle.bench.proofs.tests.machine_check.Goals as goal

pub waiting-n-requires : goal.waiting-n-requires
waiting-n-requires c =
    (c.requires.k_bound, (bench-ready c.args.nets.now c.args.queues.now c.args.bench.now c.requires.bench_value).numbers)

pub returns-then-n-ge-MAX_WAITING : goal.returns-then-n-ge-MAX_WAITING
returns-then-n-ge-MAX_WAITING c =
    let n = c.part_of-net in
    let w = c.waiting-n in
    queue-full c.args.nets.now c.args.latches.now c.args.queues.now c.args.bench.now c.args.k c.args.cycle.now c.requires.k_bound c.requires.bench_value n.result.now n.ensures w.result w.ensures c.if-n-ge-MAX_WAITING.true

pub returns-then-not-is_cycle : goal.returns-then-not-is_cycle
returns-then-not-is_cycle c =
    let n = c.part_of-net in
    let w = c.waiting-n in
    let h = c.of-header in
    cycle-wrong c.args.nets.now c.args.latches.now c.args.queues.now c.args.bench.now c.args.k c.args.cycle.now c.requires.k_bound c.requires.bench_value n.result.now n.ensures w.result w.ensures c.if-n-ge-MAX_WAITING.false h.result.inputs h.ensures.inputs (sym c.is_cycle.ensures ∙ not-true _ c.if-not-is_cycle.true-raw)

pub returns-then-latches-header : goal.returns-then-latches-header
returns-then-latches-header c =
    let n = c.part_of-net in
    let w = c.waiting-n in
    let h = c.of-header in
    latches-short c.args.nets.now c.args.latches.now c.args.queues.now c.args.bench.now c.args.k c.args.cycle.now c.requires.k_bound c.requires.bench_value n.result.now n.ensures w.result w.ensures c.if-n-ge-MAX_WAITING.false h.result.inputs h.ensures.inputs (sym c.is_cycle.ensures ∙ not-false _ c.if-not-is_cycle.false-raw) h.result.latches h.ensures.latches c.if-latches-header.true

pub returns-then-queues-n : goal.returns-then-queues-n
returns-then-queues-n c =
    let n = c.part_of-net in
    let w = c.waiting-n in
    let h = c.of-header in
    slot_short c.args.nets.now c.args.latches.now c.args.queues.now c.args.bench.now c.args.k c.args.cycle.now c.requires.k_bound c.requires.bench_value n.result.now n.ensures w.result w.ensures c.if-n-ge-MAX_WAITING.false h.result.inputs h.ensures.inputs (sym c.is_cycle.ensures ∙ not-false _ c.if-not-is_cycle.false-raw) h.result.latches h.ensures.latches c.if-latches-header.false c.if-queues-n.true

pub tally-requires : goal.tally-requires
tally-requires c =
    (c.requires.k_bound, (bench-ready c.args.nets.now c.args.queues.now c.args.bench.now c.requires.bench_value).numbers)

pub returns-then-not-has_room : goal.returns-then-not-has_room
returns-then-not-has_room c =
    let n = c.part_of-net in
    let w = c.waiting-n in
    let h = c.of-header in
    let t = c.tally in
    tally-full c.args.nets.now c.args.latches.now c.args.queues.now c.args.bench.now c.args.k c.args.cycle.now c.requires.k_bound c.requires.bench_value n.result.now n.ensures w.result w.ensures c.if-n-ge-MAX_WAITING.false h.result.inputs h.ensures.inputs (sym c.is_cycle.ensures ∙ not-false _ c.if-not-is_cycle.false-raw) h.result.latches h.ensures.latches c.if-latches-header.false c.if-queues-n.false t.result t.ensures (sym c.has_room.ensures ∙ not-true _ c.if-not-has_room.true-raw)

pub returns : goal.returns
returns c =
    let n = c.part_of-net in
    let w = c.waiting-n in
    let h = c.of-header in
    let t = c.tally in
    all-passed c.args.nets.now c.args.latches.now c.args.queues.now c.args.bench.now c.args.k c.args.cycle.now c.requires.k_bound c.requires.bench_value n.result.now n.ensures w.result w.ensures c.if-n-ge-MAX_WAITING.false h.result.inputs h.ensures.inputs (sym c.is_cycle.ensures ∙ not-false _ c.if-not-is_cycle.false-raw) h.result.latches h.ensures.latches c.if-latches-header.false c.if-queues-n.false t.result t.ensures (sym c.has_room.ensures ∙ not-false _ c.if-not-has_room.false-raw)
