-- `bench::queues::queue_up` meets its contract. Assumes nothing.
use mathlib.Core.Path.{ap, ◌∙◌}
use mathlib.Core.List.{List}
use Prim.Native.Nat.{ℕ}
use native.Mathlib.Omega.{arith}
use Rattle.bench_turns.specs.Parts.{with_part, placed}
use Rattle.bench_turns.proofs.PartLaws.{fits}
use Rattle.bench.proofs.SliceLaws.{part-is, back_with}
use Rattle.bench.proofs.queues.queue_up.Goals as goal

pub slice_bounds-place-end : goal.slice_bounds-place-end
slice_bounds-place-end c = omega (arith, fits c.args.k c.args.queues.now c.requires.k_bound)

pub place-requires : goal.place-requires
place-requires c =
    rw (part-is c.args.k c.args.queues.now _ _ c.bounds-at.ensures.0 c.bounds-at.ensures.1) c.requires.cycle_in_bounds

pub returns : goal.returns
returns c =
    let p = c.place in
    back_with c.args.k c.args.queues.now _ _ c.bounds-at.ensures.0 c.bounds-at.ensures.1 p.new.queue
    ∙ ap (λ (z : List ℕ). with_part c.args.k z c.args.queues.now) p.ensures
    ∙ ap (λ (z : List ℕ). with_part c.args.k (placed c.args.n c.args.cycle.now z) c.args.queues.now) (part-is c.args.k c.args.queues.now _ _ c.bounds-at.ensures.0 c.bounds-at.ensures.1)
