-- `bench::places::part_of` meets its contract. Assumes nothing.
use native.Mathlib.Omega.{arith}
use Rattle.bench_turns.proofs.PartLaws.{fits}
use Rattle.bench.proofs.SliceLaws.{part-is}
use Rattle.bench.proofs.places.part_of.Goals as goal

pub slice_bounds-result-end : goal.slice_bounds-result-end
slice_bounds-result-end g c = omega (arith, fits c.args.k c.args.parts.now c.requires)

pub returns : goal.returns
returns g c = part-is c.args.k c.args.parts.now _ _ c.bounds-at.ensures.0 c.bounds-at.ensures.1
