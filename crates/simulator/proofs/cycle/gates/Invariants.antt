-- `simulator::cycle::gates` meets its contract: the words of the gates passed stand in front, and the rest is as it was. Assumes nothing.
use mathlib.Core.Path.{◌≡◌}
use Rattle.netlist.specs.Meaning.{words}
use Rattle.simulator.proofs.CycleLaws.{buffer}
use Rattle.simulator.proofs.cycle.gates.Given as goal

abbrev pub invariant-loop-g : goal.invariant-loop-g
invariant-loop-g l = l.values ≡ buffer words l.net l.at l.first l.initial.values l.g
