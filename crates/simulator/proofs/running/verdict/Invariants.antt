-- `simulator::running::verdict` meets its contract: every byte passed is 0. Assumes nothing.
use mathlib.Core.Path.{◌≡◌}
use Prim.Native.Nat.{ℕ, ◌<◌}
use lib.ListN.{get_or}
use Rattle.simulator.proofs.running.verdict.Given as goal

abbrev pub invariant-loop-b : goal.invariant-loop-b
invariant-loop-b l = (j : ℕ) → j < l.b-index → get_or l.verdicts j 0 ≡ 0
