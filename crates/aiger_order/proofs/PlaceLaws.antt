-- What place answers, by its tests. Assumes nothing.
use Rattle.std.specs.Prelude.{Ok, Err}
use mathlib.Core.Path.{◌≡◌, ◌∙◌}
use mathlib.Core.Bool.{Bool, true, false}
use mathlib.Core.List.{List, ◌++◌}
use Prim.Native.Nat.{ℕ, ◌<◌, ◌≤◌}
use lib.ListN.{length, take, drop}
use borrow.Author.Tests.{le-leb, lt-leb}
use Rattle.netlist.specs.Layout.{gate_count, size_of}
use Rattle.gate_order.specs.Loose.{is_loose}
use Rattle.gate_order.specs.Placing.{ordered}
use Rattle.gate_order.specs.Renumbered.{renumbered}
use Rattle.aiger_order.specs.declared.Unplaced.TheVariants.{Waiting, ShortBuffer, NotLoose}
use Rattle.aiger_order.specs.Place.{PlaceEnd, place_end, place_as, place_of}
use Rattle.aiger_order.specs.Private.Steps.{Ordered, Found}

module _ (loose net order : List ℕ) {size : ℕ} (is : size ≡ size_of loose) where
  pub short : length net < size → place_end (Err ShortBuffer) net ≡ place_as (ordered order) loose net
  unfolding place_as
  short h = rw (lt-leb (size_of loose) (length net) (rw is at h))

  pub fits : {after : List ℕ} → size ≤ length net → after ≡ renumbered loose order ++ drop (size_of loose) net
      → place_end (Ok size) after ≡ place_as (ordered order) loose net
  unfolding place_as
  fits h e = rw (le-leb (size_of loose) (length net) (rw is at h), is, e)

pub not-loose : (loose net : List ℕ) → is_loose loose ≡ false → place_end (Err NotLoose) net ≡ place_of loose net
unfolding place_of
not-loose loose net e = rw e

module _ (loose news order : List ℕ) {r : Bool} (f : Found loose news order r) where
  pub found : r ≡ true → Ordered loose news order
  unfolding Found
  found e = rw e at f

  module _ (net : List ℕ) (is : is_loose loose ≡ true) where
    pub stuck : r ≡ false → place_end (Err Waiting) net ≡ place_of loose net
    unfolding place_of place_as Found
    stuck e = let w = rw e at f in rw (is, w.1)

    pub placed : r ≡ true → {a : PlaceEnd} → a ≡ place_as (ordered (take (gate_count loose) order)) loose net → a ≡ place_of loose net
    unfolding place_of
    placed e h = let d = found e in h ∙ rw (is, d.is)
