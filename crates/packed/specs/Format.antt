-- The AIGER file of a netlist in the binary format: the header's counts as in the text, no input lines, latches without
-- their own literal, outputs, each gate as two byte runs, and nothing after the last gate. Assumes nothing.
use Rattle.std.specs.Prelude.{Bool, false, not, cond, ◌&&◌, List, [], ◌∷◌, ◌++◌, ℕ, ◌+◌, ◌-◌, eqb, get_or}
use Rattle.text.specs.Quoted.{bytes}
use Rattle.text.specs.Writer.{joined}
use Rattle.netlist.specs.Layout.{maximum, input_count, latch_count, output_count, gate_count, next_at, reset_at, operands_at, gate_variable}
use Rattle.netlist.specs.Literals.{literal_of}
use Rattle.aiger.specs.Rows.{line}
use Rattle.aiger.specs.Format.{output_line}
use Rattle.packed.specs.Runs.{run}

-- `aig M I L O A`
unfoldable pub packed_header : ℕ → ℕ → ℕ → ℕ → ℕ → List ℕ
packed_header m i l o a = bytes "aig " ++ line m (i ∷ l ∷ o ∷ a ∷ [])

-- a latch: the next literal, and the reset as second number where it is not 0; the reset 0 stands there too where it is
-- explicit
unfoldable pub packed_latch_row : Bool → ℕ → ℕ → List ℕ
packed_latch_row explicit next reset = cond (eqb reset 0 && not explicit) (line next []) (line next (reset ∷ []))

-- a gate g of operands r0 and r1: g − r0 and r0 − r1
unfoldable pub gate_runs : ℕ → ℕ → ℕ → List ℕ
gate_runs g r0 r1 = run (g - r0) ++ run (r0 - r1)

-- line k of the latches, and the bytes of gate k, k from 0
unfoldable pub packed_latch : List ℕ → (ℕ → Bool) → ℕ → List ℕ
packed_latch net explicit k = packed_latch_row (explicit k) (get_or net (next_at k) 0) (get_or net (reset_at k) 0)

unfoldable pub packed_gate : List ℕ → ℕ → List ℕ
packed_gate net k =
    gate_runs (literal_of (gate_variable net k) false) (get_or net (operands_at net k) 0) (get_or net (operands_at net k + 1) 0)

-- a file of the netlist, in which the latches k with `explicit k` have their reset written though it is 0
unfoldable pub packed_with : List ℕ → (ℕ → Bool) → List ℕ
packed_with net explicit =
    packed_header (maximum net) (input_count net) (latch_count net) (output_count net) (gate_count net)
    ++ (joined (packed_latch net explicit) (latch_count net)
    ++ (joined (output_line net) (output_count net) ++ joined (packed_gate net) (gate_count net)))

-- the file that is written: no reset 0 is
unfoldable pub packed_of : List ℕ → List ℕ
packed_of net = packed_with net (λ k. false)
