-- `simulator::cycle::load` meets its contract. Assumes nothing.
use mathlib.Core.Path.{ap, ◌∙◌}
use mathlib.Core.List.{List}
use Prim.Native.Nat.{ℕ, ◌+◌}
use native.Mathlib.Omega.{arith}
use lib.ListN.{length, length-set}
use lib.Seq.{paste}
use Rattle.netlist.specs.Meaning.{words, bit_of, front}
use Rattle.simulator.proofs.CycleLaws.{load_is}
use Rattle.simulator.proofs.cycle.load.Goals as goal

pub inputs-requires : goal.inputs-requires
inputs-requires c = rw length-set (omega arith)

pub latches_in-requires : goal.latches_in-requires
latches_in-requires c =
    let k = c.inputs.auto.values in
    record { count_in_bounds = omega arith; count_in_bounds_2 = omega (arith, k, length-set c.args.values.now 0 0) }

pub shape_of-values : goal.shape_of-values
shape_of-values c =
    let k2 = c.latches_in.auto.values in
    let k1 = c.inputs.auto.values in
    k2 ∙ k1 ∙ length-set c.args.values.now 0 0

pub returns : goal.returns
unfolding front
returns c =
    let e2 = c.latches_in.ensures in
    let e1 = c.inputs.ensures in
    e2 ∙ ap (λ (v : List ℕ). paste v (1 + length c.args.cycle.now) c.args.latches.now c.args.count) e1
    ∙ load_is (bit_of words) 0 c.args.values.now c.args.cycle.now c.args.latches.now c.args.count c.requires.count_in_bounds c.requires.count_in_bounds_2
