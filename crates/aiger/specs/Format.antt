-- The AIGER file of a netlist in the ASCII format: header, input literals, latches, outputs, gates, and
-- nothing after the last gate. Assumes nothing.
use Rattle.std.specs.Prelude.{Bool, false, List, ◌++◌, ℕ, ◌+◌, get_or}
use Rattle.text.specs.Writer.{joined}
use Rattle.netlist.specs.Layout.{maximum, input_count, latch_count, output_count, gate_count, next_at, reset_at, output_at, operands_at, input_variable, latch_variable, gate_variable}
use Rattle.netlist.specs.Literals.{literal_of}
use Rattle.aiger.specs.Rows.{header_row, literal_row, latch_row, gate_row}

-- line k of the inputs, latches, outputs and gates, k from 0
unfoldable pub input_line : ℕ → List ℕ
input_line k = literal_row (literal_of (input_variable k) false)

unfoldable pub latch_line : List ℕ → (ℕ → Bool) → ℕ → List ℕ
latch_line net explicit k =
    latch_row (explicit k) (literal_of (latch_variable net k) false) (get_or net (next_at k) 0) (get_or net (reset_at k) 0)

unfoldable pub output_line : List ℕ → ℕ → List ℕ
output_line net k = literal_row (get_or net (output_at net k) 0)

unfoldable pub gate_line : List ℕ → ℕ → List ℕ
gate_line net k =
    gate_row (literal_of (gate_variable net k) false) (get_or net (operands_at net k) 0) (get_or net (operands_at net k + 1) 0)

-- a file of the netlist, in which the latches k with `explicit k` have their reset written though it is 0
unfoldable pub file_with : List ℕ → (ℕ → Bool) → List ℕ
file_with net explicit =
    header_row (maximum net) (input_count net) (latch_count net) (output_count net) (gate_count net)
    ++ (joined input_line (input_count net)
    ++ (joined (latch_line net explicit) (latch_count net)
    ++ (joined (output_line net) (output_count net) ++ joined (gate_line net) (gate_count net))))

-- the file that is written: no reset 0 is
unfoldable pub file_of : List ℕ → List ℕ
file_of net = file_with net (λ k. false)
