-- `first_broken::places::earliest` meets its contract: what is found from here on is what is found in all. Assumes nothing.
use mathlib.Core.Path.{◌≡◌}
use Prim.Native.Nat.{◌-◌, max}
use lib.ListN.{length}
use Rattle.first_broken.specs.Places.{broken_from, broken_of}
use Rattle.first_broken.proofs.places.earliest.Given as goal

abbrev pub invariant-loop-n : goal.invariant-loop-n
invariant-loop-n l = broken_from (max (length l.flywheel) (length l.handle) - l.n) l.n l.flywheel l.handle ≡ broken_of l.flywheel l.handle
