-- `latches_ok` meets its contract. Assumes nothing.
use Prim.Native.Nat.{ℕ, ◌≤◌, ◌<◌, ◌-◌}
use mathlib.Core.Path.{◌≡◌}
use mathlib.Core.Bool.{true}
use Rattle.netlist.specs.Valid.{latch_ok, free_count}
use Rattle.netlist.proofs.valid.latches_ok.Given as goal

abbrev pub invariant-loop-k : goal.invariant-loop-k
invariant-loop-k l = (l.k ≤ l.count) × (l.uninitialised ≡ free_count l.net l.k) × ((j : ℕ) → j < l.k → latch_ok l.net j ≡ true)

abbrev pub decreases-loop-k : goal.decreases-loop-k
decreases-loop-k l = l.count - l.k
