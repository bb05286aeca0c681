-- When start, step and run are refused, and by which number and line of document 01's table. The first
-- test that fails decides. Assumes nothing.
use Rattle.std.specs.Prelude.{Result, Ok, Err, Bool, cond, not, ◌&&◌, List, ℕ, ◌+◌, eqb, leb, length}
use Rattle.text.specs.declared.Refusal.{Refusal}
use Rattle.netlist.specs.Layout.{maximum, input_count, latch_count}
use Rattle.netlist.specs.Valid.{is_netlist}
use Rattle.calls.specs.declared.refusal.Cause.{Cause}
use Rattle.calls.specs.declared.refusal.Cause.TheVariants.{TraceTooLong, ShortBuffer, WrongLine, NotNetlist, FullTally}
use Rattle.calls.specs.declared.tally.Tally.{Tally}
use Rattle.calls.specs.Tallies.{has_room}
use Rattle.trace.specs.Traces.{is_cycle, fault_of, line_count}

-- the number and line of each cause
unfoldable pub refusal_of : Cause → Refusal
refusal_of TraceTooLong = record { number = 1; line = 0 }
refusal_of ShortBuffer = record { number = 12; line = 0 }
refusal_of (WrongLine line) = record { number = 15; line = line }
refusal_of NotNetlist = record { number = 16; line = 0 }
refusal_of FullTally = record { number = 17; line = 0 }

-- ---- each test by its name, with nl latch words, nv value words and nb verdict bytes lent
unfoldable pub is_short : List ℕ → Bool
is_short trace = leb (length trace) 1048576

unfoldable pub has_latches : List ℕ → ℕ → Bool
has_latches net nl = leb (latch_count net) nl

unfoldable pub has_values : List ℕ → ℕ → Bool
has_values net nv = leb (maximum net + 1) nv

-- ---- the tests of each call, in order
unfoldable pub start_check : List ℕ → ℕ → Result Unit Cause
start_check net nl =
    cond (not (is_netlist net)) (Err NotNetlist)
    (cond (not (has_latches net nl)) (Err ShortBuffer)
    (Ok tt))

-- a step's cycle is line 1
unfoldable pub step_check : List ℕ → List ℕ → ℕ → ℕ → Tally → Result Unit Cause
step_check net cycle nl nv t =
    cond (not (is_netlist net)) (Err NotNetlist)
    (cond (not (is_cycle (input_count net) cycle)) (Err (WrongLine 1))
    (cond (not (has_latches net nl && has_values net nv)) (Err ShortBuffer)
    (cond (not (has_room t 1)) (Err FullTally)
    (Ok tt))))

-- a run fills a verdict byte for each line, and its new cycles are the lines of its trace
unfoldable pub run_check : List ℕ → List ℕ → ℕ → ℕ → ℕ → Tally → Result Unit Cause
run_check net trace nl nv nb t =
    let fault = fault_of (input_count net) trace in
    let lines = line_count (input_count net) trace in
    cond (not (is_short trace)) (Err TraceTooLong)
    (cond (not (is_netlist net)) (Err NotNetlist)
    (cond (not (eqb fault 0)) (Err (WrongLine fault))
    (cond (not (has_latches net nl && (has_values net nv && leb lines nb))) (Err ShortBuffer)
    (cond (not (has_room t lines)) (Err FullTally)
    (Ok tt)))))
