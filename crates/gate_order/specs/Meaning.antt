-- "A new file's outputs and next states agree with AIGER's meaning of the file itself": the valuation of the file's own
-- variables that satisfies its equations, in whatever order these stand. Assumes nothing.
use Rattle.std.specs.Prelude.{◌≡◌, Bool, false, List, ℕ, ◌<◌, length, get_or}
use Rattle.netlist.specs.Layout.{input_count, latch_count, output_count, next_at, reset_at, output_at}
use Rattle.netlist.specs.Meaning.{bools, lit_of, values_of, next_of, output_of}
use Rattle.netlist.specs.Aiger.{Satisfies}

-- in a cycle, with its inputs and latches: one valuation satisfies the file's equations, no other does, and by it the
-- file's outputs and next states have the values that the netlist computes
pub record SameCycle (loose net : List ℕ) (ins latches : List Bool) : Type 0 where
  pub values : List Bool
  pub satisfies : Satisfies loose ins latches values
  pub only : (v : List Bool) → Satisfies loose ins latches v → v ≡ values
  pub output : (k : ℕ) → k < output_count loose → lit_of bools values (get_or loose (output_at loose k) 0) ≡ output_of bools net k (values_of bools net ins latches)
  pub next : (k : ℕ) → k < latch_count loose → lit_of bools values (get_or loose (next_at k) 0) ≡ get_or (next_of bools net (values_of bools net ins latches)) k false

-- the same inputs, latches, resets and outputs, and the same in every cycle
pub record SameMeaning (loose net : List ℕ) : Type 0 where
  pub inputs : input_count net ≡ input_count loose
  pub latches : latch_count net ≡ latch_count loose
  pub outputs : output_count net ≡ output_count loose
  pub reset : (k : ℕ) → k < latch_count loose → get_or net (reset_at k) 0 ≡ get_or loose (reset_at k) 0
  pub cycle : (ins latches : List Bool) → length ins ≡ input_count loose → length latches ≡ latch_count loose → SameCycle loose net ins latches
