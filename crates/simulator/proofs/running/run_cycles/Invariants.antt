-- `simulator::running::run_cycles` meets its contract: what is still to run gives what the whole run gives. Assumes nothing.
use mathlib.Core.Path.{◌≡◌}
use Rattle.simulator.proofs.RunLaws.{Going, Asked}
use Rattle.simulator.proofs.running.run_cycles.Given as goal

abbrev pub invariant-loop-k : goal.invariant-loop-k
invariant-loop-k l = Asked l.net l.trace l.n l.lines l.initial.latches l.initial.values l.initial.verdicts l.initial.total × Going l.net l.trace l.n l.lines l.initial.latches l.initial.values l.initial.verdicts l.initial.total l.latches l.values l.verdicts l.total l.reader.at l.k × (l.reader.trace.now ≡ l.trace) × (l.reader.inputs ≡ l.n)
