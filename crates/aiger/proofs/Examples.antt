-- The files of graph G's netlist, with one output and with two, computed from the definition, and numbers that are
-- no netlist for their outputs. Assumes nothing.
use mathlib.Core.Path.{◌≡◌, refl}
use mathlib.Core.Bool.{true, false}
use mathlib.Core.List.{List, [], ◌∷◌}
use Prim.Native.Nat.{ℕ}
use Rattle.text.specs.Quoted.{bytes}
use Rattle.text.specs.Numbers.{digits, digits_of}
use Rattle.netlist.specs.Literals.{literal_of}
use Rattle.netlist.specs.Lanes.{each}
use Rattle.netlist.specs.Valid.{header_ok, is_within, is_free, latch_ok, free_count, output_ok, gate_ok, is_outline, is_netlist}
use Rattle.aiger.specs.Rows.{line, header_row, literal_row, latch_row, gate_row}
use Rattle.aiger.specs.Format.{input_line, latch_line, output_line, gate_line, file_with, file_of}

unfoldable netlist_g : List ℕ
netlist_g =
    12 ∷ 3 ∷ 2 ∷ 1 ∷ 7 ∷ 18 ∷ 0 ∷ 25 ∷ 0 ∷ 24 ∷ 8 ∷ 3 ∷ 10 ∷ 3 ∷ 4 ∷ 2 ∷ 16 ∷ 6 ∷ 16 ∷ 7 ∷ 4 ∷ 0 ∷ 23 ∷ 21 ∷ []

netlist_of_G : is_netlist netlist_g ≡ true
unfolding netlist_g is_netlist is_outline header_ok each output_ok is_within latch_ok is_free free_count gate_ok literal_of
netlist_of_G = refl

file_of_G : file_of netlist_g
    ≡ bytes "aag 12 3 2 1 7\n2\n4\n6\n8 18\n10 25\n24\n12 8 3\n14 10 3\n16 4 2\n18 16 6\n20 16 7\n22 4 0\n24 23 21\n"
unfolding netlist_g file_of file_with header_row literal_row latch_row gate_row line input_line latch_line output_line gate_line literal_of digits digits_of
file_of_G = refl

-- with the second output, whose gate is the last
unfoldable checked_g : List ℕ
checked_g =
    13 ∷ 3 ∷ 2 ∷ 2 ∷ 8 ∷ 18 ∷ 0 ∷ 25 ∷ 0 ∷ 24 ∷ 27 ∷ 8 ∷ 3 ∷ 10 ∷ 3 ∷ 4 ∷ 2 ∷ 16 ∷ 6 ∷ 16 ∷ 7 ∷ 4 ∷ 0 ∷ 23 ∷ 21 ∷ 24 ∷ 19 ∷ []

netlist_of_checked : is_netlist checked_g ≡ true
unfolding checked_g is_netlist is_outline header_ok each output_ok is_within latch_ok is_free free_count gate_ok literal_of
netlist_of_checked = refl

file_of-checked : file_of checked_g
    ≡ bytes "aag 13 3 2 2 8\n2\n4\n6\n8 18\n10 25\n24\n27\n12 8 3\n14 10 3\n16 4 2\n18 16 6\n20 16 7\n22 4 0\n24 23 21\n26 24 19\n"
unfolding checked_g file_of file_with header_row literal_row latch_row gate_row line input_line latch_line output_line gate_line literal_of digits digits_of
file_of-checked = refl

-- no netlists, so that write refuses them with 16: no output, three, a second above the largest literal, a second
-- that is missing
not_netlists : (is_netlist (1 ∷ 1 ∷ 0 ∷ 0 ∷ 0 ∷ []) ≡ false)
    × (is_netlist (1 ∷ 1 ∷ 0 ∷ 3 ∷ 0 ∷ 2 ∷ 2 ∷ 2 ∷ []) ≡ false)
    × (is_netlist (1 ∷ 1 ∷ 0 ∷ 2 ∷ 0 ∷ 2 ∷ 4 ∷ []) ≡ false)
    × (is_netlist (1 ∷ 1 ∷ 0 ∷ 2 ∷ 0 ∷ 2 ∷ []) ≡ false)
unfolding is_netlist is_outline header_ok each output_ok is_within literal_of
not_netlists = (refl, refl, refl, refl)
