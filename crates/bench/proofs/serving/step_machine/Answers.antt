-- `bench::serving::step_machine` meets its contract. Assumes nothing.
use mathlib.Core.Path.{sym}
use Prim.Native.Nat.{◌≤◌}
use lib.ListN.{length}
use lib.Seq.{length-take-le}
use Rattle.bench_turns.proofs.CheckLaws.{bench-ready}
use Rattle.bench.proofs.ServeLaws.{inputs_there, step_is_for}
use Rattle.bench.proofs.serving.step_machine.Goals as goal

pub slice_bounds-step_part-end : goal.slice_bounds-step_part-end
slice_bounds-step_part-end c =
    let r = bench-ready c.args.nets.now c.args.queues.now c.args.bench.now c.requires.bench_value in
    let h = c.of-inputs.ensures.inputs in
    let n = c.part_of-net.ensures in
    let q = c.part_of-queue.ensures in
    let there = inputs_there _ _ _ (r.places c.args.k c.requires.k_bound.0) c.requires.k_bound.1 in
    let fits : c.of-inputs.result.inputs ≤ length c.part_of-queue.result.now = rw (h, n, q) there in
    sym (length-take-le _ _ fits)

pub tally-requires : goal.tally-requires
tally-requires c =
    (c.requires.k_bound.0, (bench-ready c.args.nets.now c.args.queues.now c.args.bench.now c.requires.bench_value).numbers)

pub returns : goal.returns
returns c =
    let p = c.step_part in
    let t = c.tally in
    let h = c.of-inputs in
    let q = c.part_of-queue in
    let n = c.part_of-net in
    step_is_for c.args.nets.now c.args.latches.now c.args.values.now c.args.queues.now c.args.bench.now c.args.k n.result.now n.ensures q.result.now q.ensures h.result.inputs h.ensures.inputs t.result t.ensures p.result p.new.latches p.new.values p.ensures
