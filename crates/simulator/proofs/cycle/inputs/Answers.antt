-- `simulator::cycle::inputs` meets its contract: the words of the inputs passed stand from variable 1 on. Assumes nothing.
use mathlib.Core.Path.{◌≡◌}
use mathlib.Core.List.{map}
use native.Mathlib.Omega.{arith}
use lib.ListN.{length}
use lib.Seq.{paste-zero}
use Rattle.netlist.specs.Meaning.{words, bit_of}
use Rattle.simulator.proofs.CycleLaws.{paste_map}
use Rattle.simulator.proofs.cycle.inputs.Goals as goal

pub loop-v-init : goal.loop-v-init
loop-v-init c =
    paste-zero c.args.values.now 1 (map (bit_of words) c.args.cycle.now)

pub loop-v-preserved : goal.loop-v-preserved
loop-v-preserved c =
    let step = paste_map (bit_of words) c.args.values.now 1 c.args.cycle.now c.loop-v.v 0 (omega arith) (omega arith) in
    rw (c.loop-v.invariant, c.spread.ensures) step

pub returns : goal.returns
returns c =
    let e : c.loop-v.v ≡ length c.args.cycle.now = omega arith in
    rw e at c.loop-v.invariant
