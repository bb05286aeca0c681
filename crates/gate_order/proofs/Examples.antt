-- Worked cases of placing: gates before their operands, gates that wait on each other, numbers that are not loose.
-- Assumes nothing.
use mathlib.Core.Path.{◌≡◌, refl}
use mathlib.Core.Bool.{true, false}
use mathlib.Core.List.{List, [], ◌∷◌}
use Prim.Native.Nat.{ℕ}
use Rattle.netlist.specs.Literals.{literal_of, variable_of, is_inverted}
use Rattle.netlist.specs.Lanes.{each}
use Rattle.netlist.specs.Valid.{header_ok, is_within, is_free, latch_ok, free_count, output_ok, is_outline}
use Rattle.gate_order.specs.Loose.{operands_ok, is_loose}
use Rattle.gate_order.specs.Placing.{ordered, waiting, placing_of}
use Rattle.gate_order.specs.Renumbered.{larger_first, new_variable, new_literal, new_latch, new_output, new_gate, renumbered}

-- loose numbers, the variables of their gates in the order of their places, and the netlist
abbrev Places : List ℕ → List ℕ → List ℕ → Type 0
Places loose order net = (is_loose loose ≡ true) × (placing_of loose ≡ ordered order) × (renumbered loose order ≡ net)

-- loose numbers with gates that wait, and the gates placed before
abbrev Waits : List ℕ → List ℕ → Type 0
Waits loose order = (is_loose loose ≡ true) × (placing_of loose ≡ waiting order)

-- `4 6 2, 6 2 3` with output 4: gate 6 is placed first and becomes 4
-- `4 6 7, 6 2 2` with output 5: signs stay, and the larger operand comes first
-- `6 8 2, 8 4 2` with latch `4 6 4` and output 8: next literal and output are renumbered, the reset is not
-- `4 10 2, 6 2 2, 8 4 6, 10 3 2` with output 4: the order is 6, 10, 4, 8
-- `4 6 2, 6 2 2, 8 2 3` with output 8: gate 4, ready once 6 is placed, goes before 8, ready from the start
-- `6 8 1, 8 0 4` with latch `4 7 1` and outputs 9 and 0: constant operands, and the smaller one first
places : Places (3 ∷ 1 ∷ 0 ∷ 1 ∷ 2 ∷ 4 ∷ 6 ∷ 2 ∷ 2 ∷ 3 ∷ []) (3 ∷ 2 ∷ []) (3 ∷ 1 ∷ 0 ∷ 1 ∷ 2 ∷ 6 ∷ 3 ∷ 2 ∷ 4 ∷ 2 ∷ [])
    × Places (3 ∷ 1 ∷ 0 ∷ 1 ∷ 2 ∷ 5 ∷ 6 ∷ 7 ∷ 2 ∷ 2 ∷ []) (3 ∷ 2 ∷ []) (3 ∷ 1 ∷ 0 ∷ 1 ∷ 2 ∷ 7 ∷ 2 ∷ 2 ∷ 5 ∷ 4 ∷ [])
    × Places (4 ∷ 1 ∷ 1 ∷ 1 ∷ 2 ∷ 6 ∷ 4 ∷ 8 ∷ 8 ∷ 2 ∷ 4 ∷ 2 ∷ []) (4 ∷ 3 ∷ []) (4 ∷ 1 ∷ 1 ∷ 1 ∷ 2 ∷ 8 ∷ 4 ∷ 6 ∷ 4 ∷ 2 ∷ 6 ∷ 2 ∷ [])
    × Places (5 ∷ 1 ∷ 0 ∷ 1 ∷ 4 ∷ 4 ∷ 10 ∷ 2 ∷ 2 ∷ 2 ∷ 4 ∷ 6 ∷ 3 ∷ 2 ∷ []) (3 ∷ 5 ∷ 2 ∷ 4 ∷ []) (5 ∷ 1 ∷ 0 ∷ 1 ∷ 4 ∷ 8 ∷ 2 ∷ 2 ∷ 3 ∷ 2 ∷ 6 ∷ 2 ∷ 8 ∷ 4 ∷ [])
    × Places (4 ∷ 1 ∷ 0 ∷ 1 ∷ 3 ∷ 8 ∷ 6 ∷ 2 ∷ 2 ∷ 2 ∷ 2 ∷ 3 ∷ []) (3 ∷ 2 ∷ 4 ∷ []) (4 ∷ 1 ∷ 0 ∷ 1 ∷ 3 ∷ 8 ∷ 2 ∷ 2 ∷ 4 ∷ 2 ∷ 3 ∷ 2 ∷ [])
    × Places (4 ∷ 1 ∷ 1 ∷ 2 ∷ 2 ∷ 7 ∷ 1 ∷ 9 ∷ 0 ∷ 8 ∷ 1 ∷ 0 ∷ 4 ∷ []) (4 ∷ 3 ∷ []) (4 ∷ 1 ∷ 1 ∷ 2 ∷ 2 ∷ 9 ∷ 1 ∷ 7 ∷ 0 ∷ 4 ∷ 0 ∷ 6 ∷ 1 ∷ [])
unfolding is_loose is_outline header_ok each output_ok is_within latch_ok is_free free_count operands_ok literal_of variable_of is_inverted renumbered new_latch new_output new_gate new_literal new_variable larger_first
places = ((refl, refl, refl), (refl, refl, refl), (refl, refl, refl), (refl, refl, refl), (refl, refl, refl), (refl, refl, refl))

-- `4 6 2, 6 4 2`: gates wait on each other; `4 4 2`, `4 5 2`: a gate waits on itself
-- `4 4 2, 6 2 2`: gate 6 does not wait
waits : Waits (3 ∷ 1 ∷ 0 ∷ 1 ∷ 2 ∷ 4 ∷ 6 ∷ 2 ∷ 4 ∷ 2 ∷ []) []
    × Waits (2 ∷ 1 ∷ 0 ∷ 1 ∷ 1 ∷ 4 ∷ 4 ∷ 2 ∷ []) []
    × Waits (2 ∷ 1 ∷ 0 ∷ 1 ∷ 1 ∷ 4 ∷ 5 ∷ 2 ∷ []) []
    × Waits (3 ∷ 1 ∷ 0 ∷ 1 ∷ 2 ∷ 4 ∷ 4 ∷ 2 ∷ 2 ∷ 2 ∷ []) (3 ∷ [])
unfolding is_loose is_outline header_ok each output_ok is_within latch_ok is_free free_count operands_ok literal_of variable_of
waits = ((refl, refl), (refl, refl), (refl, refl), (refl, refl))

-- `4 6 2` of two variables: an operand of 2M + 2
-- latches `4 0 4` to `16 0 16`: a seventh uninitialised latch
-- latches `4 0 6` and `6 0 0`: a reset that is another latch's literal
-- and the neighbours of these that are loose
refused : (is_loose (2 ∷ 1 ∷ 0 ∷ 1 ∷ 1 ∷ 4 ∷ 6 ∷ 2 ∷ []) ≡ false)
    × (is_loose (8 ∷ 1 ∷ 7 ∷ 1 ∷ 0 ∷ 0 ∷ 4 ∷ 0 ∷ 6 ∷ 0 ∷ 8 ∷ 0 ∷ 10 ∷ 0 ∷ 12 ∷ 0 ∷ 14 ∷ 0 ∷ 16 ∷ 2 ∷ []) ≡ false)
    × (is_loose (3 ∷ 1 ∷ 2 ∷ 1 ∷ 0 ∷ 0 ∷ 6 ∷ 0 ∷ 0 ∷ 2 ∷ []) ≡ false)
    × (is_loose (2 ∷ 1 ∷ 0 ∷ 1 ∷ 1 ∷ 4 ∷ 5 ∷ 2 ∷ []) ≡ true)
    × (is_loose (8 ∷ 1 ∷ 7 ∷ 1 ∷ 0 ∷ 0 ∷ 4 ∷ 0 ∷ 6 ∷ 0 ∷ 8 ∷ 0 ∷ 10 ∷ 0 ∷ 12 ∷ 0 ∷ 14 ∷ 0 ∷ 1 ∷ 2 ∷ []) ≡ true)
    × (is_loose (3 ∷ 1 ∷ 2 ∷ 1 ∷ 0 ∷ 0 ∷ 4 ∷ 0 ∷ 0 ∷ 2 ∷ []) ≡ true)
unfolding is_loose is_outline header_ok each output_ok is_within latch_ok is_free free_count operands_ok literal_of
refused = (refl, refl, refl, refl, refl, refl)
