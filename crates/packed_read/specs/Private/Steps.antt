-- What the private functions promise. Assumes nothing.
use Rattle.std.specs.Prelude.{Option, Some, None, true, false, List, ℕ, zero, suc, ◌+◌, ◌*◌, ◌<◌}
use Rattle.netlist.specs.Literals.{literal_of}
use Rattle.aiger_lines.specs.declared.Fault.{Fault}
use Rattle.aiger_lines.specs.declared.Head.{Head}
use Rattle.aiger_lines.specs.Lines.{output_at}
use Rattle.aiger_lines.specs.Blocks.{Rows, and_then, rows_of, end_of}
use Rattle.packed_read.specs.declared.Cause.{Cause}
use Rattle.packed_read.specs.declared.Cause.TheVariants.{FaultyLine, FaultyRun}
use Rattle.packed_read.specs.Runs.{Run, took, broken}
use Rattle.packed_read.specs.Lines.{gate_at}
use Rattle.packed_read.specs.Files.{in_bytes, body_of}

-- ---- a byte run

unfoldable pub run_in : Option (ℕ × ℕ) → Run
run_in (Some (v, q)) = took v q
run_in None = broken

-- what suc k bytes hold
abbrev pub top : ℕ → ℕ
top zero = 128
top (suc k) = 128 * top k

unfoldable pub Below : ℕ → Option (ℕ × ℕ) → Type 0
Below n (Some (v, q)) = v < n
Below n None = Unit {0}

-- ---- what follows the header: from the gates on, from the outputs on, and all of it

unfoldable pub gates_of : List ℕ → Head → ℕ → ℕ → Rows
gates_of s h free p =
    in_bytes
    (and_then (rows_of (λ k. gate_at s (literal_of (h.inputs + h.latches + 1 + k) false)) h.gates 0 0 free p)
    (λ f q. end_of s 0 f q))

unfoldable pub outputs_of : List ℕ → Head → ℕ → ℕ → Rows
outputs_of s h free p =
    and_then (rows_of (λ k. output_at s (literal_of h.variables true)) h.outputs 0 (h.latches + 2) free p) (gates_of s h)

unfoldable pub latches_of : List ℕ → Head → Rows
latches_of s h = body_of s h.variables h.inputs h.latches h.outputs h.gates h.next

-- ---- the cause of a fault

unfoldable pub cause_of : Fault → ℕ → Cause
cause_of e zero = FaultyRun e
cause_of e (suc n) = FaultyLine e (suc n)
