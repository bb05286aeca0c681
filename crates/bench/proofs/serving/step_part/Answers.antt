-- `bench::serving::step_part` meets its contract. Assumes nothing.
use native.Mathlib.Omega.{arith}
use Rattle.bench_turns.proofs.PartLaws.{fits}
use Rattle.bench.proofs.SliceLaws.{stepped-part}
use Rattle.bench.proofs.serving.step_part.Goals as goal

pub slice_bounds-step-end : goal.slice_bounds-step-end
slice_bounds-step-end c = omega (arith, fits c.args.k c.args.latches.now c.requires)

pub returns : goal.returns
returns c =
    let r = c.step in
    stepped-part c.args.net.now c.args.cycle.now c.args.latches.now c.args.values.now c.args.tally c.args.k _ _ c.bounds-at.ensures.0 c.bounds-at.ensures.1 r.result r.new.latches r.new.values r.ensures.values_after
