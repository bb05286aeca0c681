-- The numbers of which a text is a file, its gates in whatever order, or the first fault and its line. Assumes nothing.
use Rattle.std.specs.Prelude.{true, false, List, ℕ, zero, suc, ◌+◌, ◌*◌, replicate}
use Rattle.text.specs.Quoted.{byte}
use Rattle.netlist.specs.Literals.{literal_of}
use Rattle.aiger_lines.specs.Lines.{output_at}
use Rattle.aiger_lines.specs.Blocks.{Rows, rows, failed, on_row, and_then, rows_of, end_of}
use Rattle.aiger_lines.specs.Heads.{head_at, on_head}
use Rattle.aiger_read.specs.Lines.{input_at, latch_at, undefined, gate_at}

-- the lines of `count` gates of the variables `first` to m from p on, of which the first line has the number `line`;
-- `ops` has the operands of the gates before them
unfoldable pub gate_rows : List ℕ → ℕ → ℕ → ℕ → ℕ → List ℕ → ℕ → ℕ → Rows
gate_rows s first m zero line ops free p = rows ops free p
gate_rows s first m (suc count) line ops free p =
    on_row (gate_at s first m ops free p) (λ more f q. gate_rows s first m count (line + 1) more f q) (λ e. failed e line)

-- the lines after the header: inputs, latches, outputs, gates
unfoldable pub body_of : List ℕ → ℕ → ℕ → ℕ → ℕ → ℕ → ℕ → Rows
body_of s m i l o a p =
    and_then (rows_of (λ k. input_at s (literal_of (1 + k) false)) i 0 2 0 p)
    (λ f1 p1.
    and_then (rows_of (λ k. latch_at s (literal_of m true) (literal_of (i + 1 + k) false)) l 0 (i + 2) f1 p1)
    (λ f2 p2.
    and_then (rows_of (λ k. output_at s (literal_of m true)) o 0 (i + l + 2) f2 p2)
    (λ f3 p3.
    and_then (gate_rows s (i + l + 1) m a (i + l + o + 2) (replicate (2 * a) undefined) f3 p3)
    (λ f4 p4. end_of s (i + l + o + a + 2) f4 p4))))

-- the whole, whose tag is `aag `
unfoldable pub file_read : List ℕ → Rows
file_read s = on_head (head_at (byte "a") s) (body_of s)
