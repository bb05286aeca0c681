-- Place: numbers that are not loose are refused, then gates that wait on each other, then a buffer that is too short; else
-- the netlist stands first in the buffer, which keeps its surplus. Assumes nothing.
use Rattle.std.specs.Prelude.{Result, Ok, Err, cond, not, List, ◌++◌, ℕ, leb, length, drop}
use Rattle.netlist.specs.Layout.{size_of}
use Rattle.gate_order.specs.Loose.{is_loose}
use Rattle.gate_order.specs.Placing.{Placing, ordered, waiting, placing_of}
use Rattle.gate_order.specs.Renumbered.{renumbered}
use Rattle.aiger_order.specs.declared.Unplaced.{Unplaced}
use Rattle.aiger_order.specs.declared.Unplaced.TheVariants.{Waiting, ShortBuffer, NotLoose}

-- what place answers, and what it leaves
pub record PlaceEnd : Type 0 where
  pub answer : Result ℕ Unplaced
  pub net : List ℕ

abbrev pub place_end : Result ℕ Unplaced → List ℕ → PlaceEnd
place_end r n = record { answer = r; net = n }

unfoldable pub place_as : Placing → List ℕ → List ℕ → PlaceEnd
place_as (waiting order) loose net = place_end (Err Waiting) net
place_as (ordered order) loose net =
    cond (not (leb (size_of loose) (length net))) (place_end (Err ShortBuffer) net)
    (place_end (Ok (size_of loose)) (renumbered loose order ++ drop (size_of loose) net))

unfoldable pub place_of : List ℕ → List ℕ → PlaceEnd
place_of loose net = cond (not (is_loose loose)) (place_end (Err NotLoose) net) (place_as (placing_of loose) loose net)
