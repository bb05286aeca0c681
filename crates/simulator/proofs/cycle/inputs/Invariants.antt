-- `simulator::cycle::inputs` meets its contract: the words of the inputs passed stand from variable 1 on. Assumes nothing.
use mathlib.Core.Path.{◌≡◌}
use mathlib.Core.List.{map}
use lib.Seq.{paste}
use Rattle.netlist.specs.Meaning.{words, bit_of}
use Rattle.simulator.proofs.cycle.inputs.Given as goal

abbrev pub invariant-loop-v : goal.invariant-loop-v
invariant-loop-v l = l.values ≡ paste l.initial.values 1 (map (bit_of words) l.cycle) l.v
