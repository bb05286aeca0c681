-- Document 01's order of refusals, computed: where two causes hold, the one that is told; 48 is `0`, 49 is `1`, 50 is `2`, 10 ends a line.
-- That a trace too long comes first of all is the law `run-too-long`. Assumes nothing.
use Rattle.std.specs.Prelude.{Ok, Err}
use Prim.Native.Nat.{ℕ}
use mathlib.Core.Path.{◌≡◌, refl}
use mathlib.Core.List.{List, [], ◌∷◌}
use Rattle.netlist.specs.Literals.{literal_of}
use Rattle.netlist.specs.Lanes.{each}
use Rattle.netlist.specs.Valid.{header_ok, is_within, is_free, latch_ok, free_count, output_ok, gate_ok, is_outline, is_netlist}
use Rattle.trace.specs.Traces.{is_bit, is_cycle, fits_line, fault_from, fault_of, line_count}
use Rattle.calls.specs.declared.refusal.Cause.TheVariants.{ShortBuffer, WrongLine, NotNetlist, FullTally}
use Rattle.calls.specs.declared.tally.Tally.{Tally}
use Rattle.calls.specs.Tallies.{has_room}
use Rattle.calls.specs.Refusals.{is_short, has_latches, has_values, start_check, step_check, run_check}

-- one input, no latch
abbrev plain : List ℕ
plain = 1 ∷ 1 ∷ 0 ∷ 1 ∷ 0 ∷ 1 ∷ []

-- the same with a second output, and with a third
abbrev twice : List ℕ
twice = 1 ∷ 1 ∷ 0 ∷ 2 ∷ 0 ∷ 1 ∷ 2 ∷ []

abbrev thrice : List ℕ
thrice = 1 ∷ 1 ∷ 0 ∷ 3 ∷ 0 ∷ 1 ∷ 2 ∷ 2 ∷ []

-- one input and one latch, whose value is the output
abbrev latched : List ℕ
latched = 2 ∷ 1 ∷ 1 ∷ 1 ∷ 0 ∷ 2 ∷ 0 ∷ 4 ∷ []

-- the same with an output literal past 2M + 1: no netlist
abbrev broken : List ℕ
broken = 2 ∷ 1 ∷ 1 ∷ 1 ∷ 0 ∷ 2 ∷ 0 ∷ 6 ∷ []

abbrev tally : ℕ → ℕ → ℕ → Tally
tally c r d = record { cycles = c; rejected = r; checked = d }

abbrev full : Tally
full = tally 4294967295 0 0

-- ---- start
-- 16 before 12
start_16_12 : start_check broken 0 ≡ Err NotNetlist
unfolding start_check has_latches is_netlist is_outline header_ok output_ok latch_ok gate_ok is_within is_free free_count each literal_of
start_16_12 = refl

start_12 : start_check latched 0 ≡ Err ShortBuffer
unfolding start_check has_latches is_netlist is_outline header_ok output_ok latch_ok gate_ok is_within is_free free_count each literal_of
start_12 = refl

start_passes : start_check latched 1 ≡ Ok tt
unfolding start_check has_latches is_netlist is_outline header_ok output_ok latch_ok gate_ok is_within is_free free_count each literal_of
start_passes = refl

-- without latches no word is needed
start_no_latch : start_check plain 0 ≡ Ok tt
unfolding start_check has_latches is_netlist is_outline header_ok output_ok latch_ok gate_ok is_within is_free free_count each literal_of
start_no_latch = refl

-- a netlist has one output or two
start-two-outputs : start_check twice 0 ≡ Ok tt
unfolding start_check has_latches is_netlist is_outline header_ok output_ok latch_ok gate_ok is_within is_free free_count each literal_of
start-two-outputs = refl

start_16_outputs : start_check thrice 0 ≡ Err NotNetlist
unfolding start_check has_latches is_netlist is_outline header_ok output_ok latch_ok gate_ok is_within is_free free_count each literal_of
start_16_outputs = refl

-- ---- step
-- 16 before 15
step_16_15 : step_check broken (50 ∷ []) 0 0 full ≡ Err NotNetlist
unfolding step_check has_values has_room is_cycle is_bit has_latches is_netlist is_outline header_ok output_ok latch_ok gate_ok is_within is_free free_count each literal_of
step_16_15 = refl

-- 15 before 12
step_15_12 : step_check latched (50 ∷ []) 0 0 full ≡ Err (WrongLine 1)
unfolding step_check has_values has_room is_cycle is_bit has_latches is_netlist is_outline header_ok output_ok latch_ok gate_ok is_within is_free free_count each literal_of
step_15_12 = refl

-- a cycle of two bytes where there is one input
step_15_length : step_check plain (48 ∷ 49 ∷ []) 0 0 full ≡ Err (WrongLine 1)
unfolding step_check has_values has_room is_cycle is_bit has_latches is_netlist is_outline header_ok output_ok latch_ok gate_ok is_within is_free free_count each literal_of
step_15_length = refl

-- 12 before 17: a latch word too few, a value word too few
step_12_17 : step_check latched (49 ∷ []) 0 3 full ≡ Err ShortBuffer
unfolding step_check has_values has_room is_cycle is_bit has_latches is_netlist is_outline header_ok output_ok latch_ok gate_ok is_within is_free free_count each literal_of
step_12_17 = refl

step_12_17_values : step_check latched (49 ∷ []) 1 2 full ≡ Err ShortBuffer
unfolding step_check has_values has_room is_cycle is_bit has_latches is_netlist is_outline header_ok output_ok latch_ok gate_ok is_within is_free free_count each literal_of
step_12_17_values = refl

-- 17 where any number of the tally is full, the third too where there is one output
step_17 : step_check latched (49 ∷ []) 1 3 full ≡ Err FullTally
unfolding step_check has_values has_room is_cycle is_bit has_latches is_netlist is_outline header_ok output_ok latch_ok gate_ok is_within is_free free_count each literal_of
step_17 = refl

step_17_rejected : step_check plain (48 ∷ []) 0 2 (tally 0 4294967295 0) ≡ Err FullTally
unfolding step_check has_values has_room is_cycle is_bit has_latches is_netlist is_outline header_ok output_ok latch_ok gate_ok is_within is_free free_count each literal_of
step_17_rejected = refl

step_17_checked : step_check plain (48 ∷ []) 0 2 (tally 0 0 4294967295) ≡ Err FullTally
unfolding step_check has_values has_room is_cycle is_bit has_latches is_netlist is_outline header_ok output_ok latch_ok gate_ok is_within is_free free_count each literal_of
step_17_checked = refl

-- the last cycle for which there is room
step_passes : step_check latched (49 ∷ []) 1 3 (tally 4294967294 4294967294 4294967294) ≡ Ok tt
unfolding step_check has_values has_room is_cycle is_bit has_latches is_netlist is_outline header_ok output_ok latch_ok gate_ok is_within is_free free_count each literal_of
step_passes = refl

-- ---- run
-- 16 before 15
run_16_15 : run_check broken (50 ∷ 10 ∷ []) 0 0 0 full ≡ Err NotNetlist
unfolding run_check is_short has_values has_room fault_of fault_from fits_line line_count is_bit has_latches is_netlist is_outline header_ok output_ok latch_ok gate_ok is_within is_free free_count each literal_of
run_16_15 = refl

-- 15 before 12, with the line
run_15_12 : run_check latched (49 ∷ 10 ∷ 50 ∷ 10 ∷ []) 0 0 0 full ≡ Err (WrongLine 2)
unfolding run_check is_short has_values has_room fault_of fault_from fits_line line_count is_bit has_latches is_netlist is_outline header_ok output_ok latch_ok gate_ok is_within is_free free_count each literal_of
run_15_12 = refl

-- a last line without its LF
run_15_end : run_check plain (49 ∷ 10 ∷ 48 ∷ []) 0 0 0 full ≡ Err (WrongLine 2)
unfolding run_check is_short has_values has_room fault_of fault_from fits_line line_count is_bit has_latches is_netlist is_outline header_ok output_ok latch_ok gate_ok is_within is_free free_count each literal_of
run_15_end = refl

-- 12 before 17: a latch word, a value word, a verdict byte too few
run_12_17 : run_check latched (49 ∷ 10 ∷ []) 0 3 1 full ≡ Err ShortBuffer
unfolding run_check is_short has_values has_room fault_of fault_from fits_line line_count is_bit has_latches is_netlist is_outline header_ok output_ok latch_ok gate_ok is_within is_free free_count each literal_of
run_12_17 = refl

run_12_17_values : run_check latched (49 ∷ 10 ∷ []) 1 2 1 full ≡ Err ShortBuffer
unfolding run_check is_short has_values has_room fault_of fault_from fits_line line_count is_bit has_latches is_netlist is_outline header_ok output_ok latch_ok gate_ok is_within is_free free_count each literal_of
run_12_17_values = refl

run_12_17_verdicts : run_check latched (49 ∷ 10 ∷ []) 1 3 0 full ≡ Err ShortBuffer
unfolding run_check is_short has_values has_room fault_of fault_from fits_line line_count is_bit has_latches is_netlist is_outline header_ok output_ok latch_ok gate_ok is_within is_free free_count each literal_of
run_12_17_verdicts = refl

-- 17 where there is no room for all lines
run_17 : run_check latched (49 ∷ 10 ∷ 48 ∷ 10 ∷ []) 1 3 2 (tally 4294967294 0 0) ≡ Err FullTally
unfolding run_check is_short has_values has_room fault_of fault_from fits_line line_count is_bit has_latches is_netlist is_outline header_ok output_ok latch_ok gate_ok is_within is_free free_count each literal_of
run_17 = refl

run_passes : run_check latched (49 ∷ 10 ∷ 48 ∷ 10 ∷ []) 1 3 2 (tally 4294967293 0 0) ≡ Ok tt
unfolding run_check is_short has_values has_room fault_of fault_from fits_line line_count is_bit has_latches is_netlist is_outline header_ok output_ok latch_ok gate_ok is_within is_free free_count each literal_of
run_passes = refl

run_17_rejected : run_check latched (49 ∷ 10 ∷ 48 ∷ 10 ∷ []) 1 3 2 (tally 0 4294967294 0) ≡ Err FullTally
unfolding run_check is_short has_values has_room fault_of fault_from fits_line line_count is_bit has_latches is_netlist is_outline header_ok output_ok latch_ok gate_ok is_within is_free free_count each literal_of
run_17_rejected = refl

run_17_checked : run_check latched (49 ∷ 10 ∷ 48 ∷ 10 ∷ []) 1 3 2 (tally 0 0 4294967294) ≡ Err FullTally
unfolding run_check is_short has_values has_room fault_of fault_from fits_line line_count is_bit has_latches is_netlist is_outline header_ok output_ok latch_ok gate_ok is_within is_free free_count each literal_of
run_17_checked = refl

run_passes_checked : run_check latched (49 ∷ 10 ∷ []) 1 3 1 (tally 0 0 4294967294) ≡ Ok tt
unfolding run_check is_short has_values has_room fault_of fault_from fits_line line_count is_bit has_latches is_netlist is_outline header_ok output_ok latch_ok gate_ok is_within is_free free_count each literal_of
run_passes_checked = refl

-- the empty trace needs its value words, and no room
run-empty_12 : run_check plain [] 0 1 0 (tally 0 0 0) ≡ Err ShortBuffer
unfolding run_check is_short has_values has_room fault_of fault_from fits_line line_count is_bit has_latches is_netlist is_outline header_ok output_ok latch_ok gate_ok is_within is_free free_count each literal_of
run-empty_12 = refl

run-empty : run_check plain [] 0 2 0 (tally 4294967295 4294967295 4294967295) ≡ Ok tt
unfolding run_check is_short has_values has_room fault_of fault_from fits_line line_count is_bit has_latches is_netlist is_outline header_ok output_ok latch_ok gate_ok is_within is_free free_count each literal_of
run-empty = refl
