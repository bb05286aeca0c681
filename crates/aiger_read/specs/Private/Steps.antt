-- What the private functions promise. Assumes nothing.
use Rattle.std.specs.Prelude.{Result, Ok, Err, ◌≡◌, true, false, List, ℕ, ◌+◌, ◌*◌, ◌≤◌, length, replicate}
use Rattle.netlist.specs.Literals.{literal_of}
use Rattle.aiger_lines.specs.declared.Fault.{Fault}
use Rattle.aiger_lines.specs.declared.Head.{Head}
use Rattle.aiger_lines.specs.declared.Cursor.{Cursor}
use Rattle.aiger_lines.specs.Lines.{Row, row, fault, output_at}
use Rattle.aiger_lines.specs.Blocks.{Rows, rows, failed, and_then, rows_of, end_of}
use Rattle.aiger_order.specs.declared.Unplaced.{Unplaced}
use Rattle.aiger_order.specs.declared.Unplaced.TheVariants.{Waiting, ShortBuffer as NoRoom, NotLoose}
use Rattle.aiger_read.specs.declared.Cause.{Cause}
use Rattle.aiger_read.specs.declared.Cause.TheVariants.{ShortBuffer, WaitingGates}
use Rattle.aiger_read.specs.Lines.{latch_at, undefined}
use Rattle.aiger_read.specs.Files.{gate_rows, body_of}

-- from the inputs on
unfoldable pub inputs_of : List ℕ → Head → Rows
inputs_of s h = body_of s h.variables h.inputs h.latches h.outputs h.gates h.next

-- ---- gates

-- `ops` has a place for each gate of the variables `first` to m
abbrev pub HasPlaces : ℕ → ℕ → List ℕ → Type 0
HasPlaces first m ops = (m ≤ 4095) × (2 * m + 2 ≤ 2 * first + length ops)

-- a gate's line, and the operands up to it
unfoldable pub gate_in : ℕ → Result ℕ Fault → List ℕ → Row
gate_in free (Ok q) ops = row ops free q
gate_in free (Err e) ops = fault e

-- the lines of gates; `ops` has the operands of the gates before them
unfoldable pub gate_block : List ℕ → Head → List ℕ → ℕ → ℕ → Rows
gate_block s h ops free p = gate_rows s (h.inputs + h.latches + 1) h.variables h.gates (h.inputs + h.latches + h.outputs + 2) ops free p

-- the operands of gates are those that were read, and stand from `place` on in the netlist; or the lines have a fault
unfoldable pub Filled : Rows → List ℕ → ℕ → Result Cursor (Fault × ℕ) → Type 0
Filled (rows ops free q) after place r = (r ≡ Ok (record { free = free; at = q; place = place + length ops })) × (after ≡ ops)
Filled (failed e line) after place r = r ≡ Err (e, line)

-- ---- the header, and the room for what comes after it

-- how many numbers a file gives at most: those of the header, and two for each line after it
abbrev pub most : ℕ
most = 8199

-- no count wraps
abbrev pub Headed : Head → Type 0
Headed h = (h.variables ≡ h.inputs + h.latches + h.gates) × (h.outputs ≤ 2) × (h.variables ≤ 4095)

-- n lines are to come
abbrev pub HasRoom : List ℕ → ℕ → ℕ → Type 0
HasRoom net place n = (length net ≡ most) × (place + 2 * n ≤ most)

-- ---- what is read

-- from the gates on
unfoldable pub gates_of : List ℕ → Head → ℕ → ℕ → Rows
gates_of s h free p =
    and_then (gate_block s h (replicate (2 * h.gates) undefined) free p)
    (λ f q. end_of s (h.inputs + h.latches + h.outputs + h.gates + 2) f q)

-- from the outputs on
unfoldable pub outputs_of : List ℕ → Head → ℕ → ℕ → Rows
outputs_of s h free p =
    and_then (rows_of (λ k. output_at s (literal_of h.variables true)) h.outputs 0 (h.inputs + h.latches + 2) free p) (gates_of s h)

-- from the latches on
unfoldable pub latches_of : List ℕ → Head → ℕ → ℕ → Rows
latches_of s h free p =
    and_then (rows_of (λ k. latch_at s (literal_of h.variables true) (literal_of (h.inputs + 1 + k) false)) h.latches 0 (h.inputs + 2) free p) (outputs_of s h)

-- ---- the cause

-- of numbers that were not placed; numbers that were read are loose
unfoldable pub cause_of : Unplaced → Cause
cause_of Waiting = WaitingGates
cause_of NoRoom = ShortBuffer
cause_of NotLoose = WaitingGates
