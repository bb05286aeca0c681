-- `simulator::cycle::latches_move` meets its contract: the latches passed have moved, and the rest are as they were. Assumes nothing.
use mathlib.Core.Path.{◌≡◌}
use Rattle.netlist.specs.Meaning.{words}
use Rattle.simulator.proofs.CycleLaws.{moved}
use Rattle.simulator.proofs.cycle.latches_move.Given as goal

abbrev pub invariant-loop-j : goal.invariant-loop-j
invariant-loop-j l = l.latches ≡ moved words l.net l.values l.initial.latches l.j
