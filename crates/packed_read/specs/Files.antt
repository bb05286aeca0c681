-- The netlist of which a text is a packed file, or the first fault and its line. Lines count from 1; the bytes of the
-- gates stand on no line, and their faults have line 0. Assumes nothing.
use Rattle.std.specs.Prelude.{true, false, List, ℕ, ◌+◌}
use Rattle.text.specs.Quoted.{byte}
use Rattle.netlist.specs.Literals.{literal_of}
use Rattle.aiger_lines.specs.Lines.{output_at}
use Rattle.aiger_lines.specs.Blocks.{Rows, rows, failed, and_then, rows_of, end_of}
use Rattle.aiger_lines.specs.Heads.{head_at, on_head}
use Rattle.packed_read.specs.Lines.{latch_at, gate_at}

-- a fault of the byte part has line 0
unfoldable pub in_bytes : Rows → Rows
in_bytes (rows ns free q) = rows ns free q
in_bytes (failed e line) = failed e 0

-- what follows the header: the lines of latches and outputs, the bytes of the gates, and nothing after them
unfoldable pub body_of : List ℕ → ℕ → ℕ → ℕ → ℕ → ℕ → ℕ → Rows
body_of s m i l o a p =
    and_then (rows_of (λ k. latch_at s (literal_of m true) (literal_of (i + 1 + k) false)) l 0 2 0 p)
    (λ f1 p1.
    and_then (rows_of (λ k. output_at s (literal_of m true)) o 0 (l + 2) f1 p1)
    (λ f2 p2.
    in_bytes
    (and_then (rows_of (λ k. gate_at s (literal_of (i + l + 1 + k) false)) a 0 0 f2 p2) (λ f3 p3. end_of s 0 f3 p3))))

-- the header is that of `aig`
unfoldable pub read_packed : List ℕ → Rows
read_packed s = on_head (head_at (byte "i") s) (body_of s)
