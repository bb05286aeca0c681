-- `simulator::latches::starts` meets its contract: the words of the first k latches stand in front. Assumes nothing.
use mathlib.Core.Path.{◌≡◌}
use Prim.Native.Nat.{◌≤◌}
use Rattle.netlist.specs.Valid.{free_count}
use Rattle.simulator.proofs.StartLaws.{started}
use Rattle.simulator.proofs.latches.starts.Given as goal

abbrev pub invariant-loop-k : goal.invariant-loop-k
invariant-loop-k l = (l.j ≤ l.k) × (l.j ≡ free_count l.net l.k) × (l.latches ≡ started l.net l.initial.latches l.k)
