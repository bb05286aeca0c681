-- `name_end` meets its contract. The loop's invariant: what is passed and the name bytes that are left make up
-- the whole. Assumes nothing.
use Prim.Native.Nat.{◌+◌}
use mathlib.Core.Path.{◌≡◌}
use lib.ListN.{drop}
use Rattle.formula.specs.Classes.{run}
use Rattle.formula.proofs.classes.name_end.Given as goal

abbrev pub invariant-loop-i : goal.invariant-loop-i
invariant-loop-i l = l.at + run (drop l.at l.s) ≡ l.i + run (drop l.i l.s)
