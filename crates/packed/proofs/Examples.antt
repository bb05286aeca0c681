-- Byte runs, and the packed files of graph G's netlist, with one output and with two, computed from the definition.
-- Assumes nothing.
use mathlib.Core.Path.{◌≡◌, refl}
use mathlib.Core.List.{List, [], ◌∷◌, ◌++◌}
use Prim.Native.Nat.{ℕ}
use lib.ListN.{length}
use Rattle.text.specs.Quoted.{bytes}
use Rattle.text.specs.Numbers.{digits, digits_of}
use Rattle.netlist.specs.Literals.{literal_of}
use Rattle.aiger.specs.Rows.{line, literal_row}
use Rattle.aiger.specs.Format.{output_line}
use Rattle.packed.specs.Runs.{run_of, run}
use Rattle.packed.specs.Format.{packed_header, packed_latch_row, gate_runs, packed_latch, packed_gate, packed_with, packed_of}

runs : (run 0 ≡ 0 ∷ []) × (run 127 ≡ 127 ∷ []) × (run 128 ≡ 128 ∷ 1 ∷ []) × (run 8190 ≡ 254 ∷ 63 ∷ []) × (run 16384 ≡ 128 ∷ 128 ∷ 1 ∷ [])
unfolding run run_of
runs = (refl, refl, refl, refl, refl)

unfoldable netlist_g : List ℕ
netlist_g =
    12 ∷ 3 ∷ 2 ∷ 1 ∷ 7 ∷ 18 ∷ 0 ∷ 25 ∷ 0 ∷ 24 ∷ 8 ∷ 3 ∷ 10 ∷ 3 ∷ 4 ∷ 2 ∷ 16 ∷ 6 ∷ 16 ∷ 7 ∷ 4 ∷ 0 ∷ 23 ∷ 21 ∷ []

packed_of_G : packed_of netlist_g
    ≡ bytes "aig 12 3 2 1 7\n18\n25\n24\n" ++ (4 ∷ 5 ∷ 4 ∷ 7 ∷ 12 ∷ 2 ∷ 2 ∷ 10 ∷ 4 ∷ 9 ∷ 18 ∷ 4 ∷ 1 ∷ 2 ∷ [])
unfolding netlist_g packed_of packed_with packed_header packed_latch packed_latch_row packed_gate gate_runs run run_of output_line literal_row line literal_of digits digits_of
packed_of_G = refl

length_of_G : length (packed_of netlist_g) ≡ 38
length_of_G = rw packed_of_G

-- resets 0, 1 and the latch's own literal
unfoldable resets : List ℕ
resets = 5 ∷ 1 ∷ 3 ∷ 2 ∷ 1 ∷ 2 ∷ 0 ∷ 10 ∷ 1 ∷ 8 ∷ 8 ∷ 11 ∷ 4 ∷ 9 ∷ 2 ∷ []

packed_of-resets : packed_of resets ≡ bytes "aig 5 1 3 2 1\n2\n10 1\n8 8\n11\n4\n" ++ (1 ∷ 7 ∷ [])
unfolding resets packed_of packed_with packed_header packed_latch packed_latch_row packed_gate gate_runs run run_of output_line literal_row line literal_of digits digits_of
packed_of-resets = refl

-- with the second output, whose gate is the last
unfoldable checked_g : List ℕ
checked_g =
    13 ∷ 3 ∷ 2 ∷ 2 ∷ 8 ∷ 18 ∷ 0 ∷ 25 ∷ 0 ∷ 24 ∷ 27 ∷ 8 ∷ 3 ∷ 10 ∷ 3 ∷ 4 ∷ 2 ∷ 16 ∷ 6 ∷ 16 ∷ 7 ∷ 4 ∷ 0 ∷ 23 ∷ 21 ∷ 24 ∷ 19 ∷ []

packed_of-checked : packed_of checked_g
    ≡ bytes "aig 13 3 2 2 8\n18\n25\n24\n27\n" ++ (4 ∷ 5 ∷ 4 ∷ 7 ∷ 12 ∷ 2 ∷ 2 ∷ 10 ∷ 4 ∷ 9 ∷ 18 ∷ 4 ∷ 1 ∷ 2 ∷ 2 ∷ 5 ∷ [])
unfolding checked_g packed_of packed_with packed_header packed_latch packed_latch_row packed_gate gate_runs run run_of output_line literal_row line literal_of digits digits_of
packed_of-checked = refl

length_of_checked : length (packed_of checked_g) ≡ 43
length_of_checked = rw packed_of-checked
