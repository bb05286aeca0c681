-- The numbers of a file whose gates come in no order: laid out as a netlist's, the operands of each gate at the place of
-- its own variable, either way round. Assumes nothing.
use Rattle.std.specs.Prelude.{◌≡◌, Bool, ◌&&◌, List, ℕ, ◌+◌, ◌-◌, ◌<◌, ◌≤◌, length, get_or}
use Rattle.netlist.specs.Layout.{input_count, latch_count, gate_count, operands_at}
use Rattle.netlist.specs.Lanes.{each}
use Rattle.netlist.specs.Valid.{is_within, is_outline}

-- the variable of the first gate, which those of the others follow
abbrev pub first_gate : List ℕ → ℕ
first_gate loose = input_count loose + latch_count loose + 1

-- the two operands of the gate whose variable is x
abbrev pub left_of : List ℕ → ℕ → ℕ
left_of loose x = get_or loose (operands_at loose (x - first_gate loose)) 0

abbrev pub right_of : List ℕ → ℕ → ℕ
right_of loose x = get_or loose (operands_at loose (x - first_gate loose) + 1) 0

-- the operands of gate k are literals of the file, whatever gates they belong to
unfoldable pub operands_ok : List ℕ → ℕ → Bool
operands_ok loose k = is_within loose (get_or loose (operands_at loose k) 0) && is_within loose (get_or loose (operands_at loose k + 1) 0)

-- a netlist but for the order of its gates and of their operands
unfoldable pub is_loose : List ℕ → Bool
is_loose loose = is_outline loose && each (gate_count loose) (operands_ok loose)

-- variables of gates, none of them twice
pub record Once (loose order : List ℕ) : Type 0 where
  pub inside : (k : ℕ) → k < length order → (first_gate loose ≤ get_or order k 0) × (get_or order k 0 < first_gate loose + gate_count loose)
  pub once : (j k : ℕ) → j < length order → k < length order → get_or order j 0 ≡ get_or order k 0 → j ≡ k
