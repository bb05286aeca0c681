-- Starts, verdicts, steps and runs, computed; 48 is `0`, 49 is `1`, 10 ends a line. Assumes nothing.
use Rattle.std.specs.Prelude.{Ok, Err}
use Prim.Native.Nat.{ℕ}
use mathlib.Core.Path.{◌≡◌, refl}
use mathlib.Core.List.{List, [], ◌∷◌, map}
use Rattle.netlist.specs.Literals.{literal_of, variable_of, is_inverted}
use Rattle.netlist.specs.Lanes.{lane, each, number_of, word_of}
use Rattle.netlist.specs.Meaning.{signed, lit_of, bit_of, gate_of, gates_of, front, values_of, nexts_of, next_of, output_of}
use Rattle.netlist.specs.Valid.{header_ok, is_within, is_free, latch_ok, free_count, output_ok, gate_ok, is_outline, is_netlist}
use Rattle.calls.specs.declared.refusal.Cause.TheVariants.{NotNetlist, ShortBuffer, FullTally}
use Rattle.calls.specs.declared.tally.Tally.{Tally}
use Rattle.calls.specs.Tallies.{is_rejected, is_checked, counted, has_room}
use Rattle.trace.specs.Traces.{is_bit, is_cycle, fits_line, fault_from, fault_of, line_count, cycles_from, cycles_of}
use Rattle.calls.specs.Refusals.{is_short, has_latches, has_values, start_check, step_check, run_check}
use Rattle.simulator.specs.declared.outcome.Verdict.TheVariants.{Accepted, Rejected}
use Rattle.simulator.specs.Start.{start_bit, start_words, start_end, start_as, start_of}
use Rattle.simulator.specs.Step.{cycle_words, output_word, word_checked, latches_after, values_after, step_end, step_as, step_of}
use Rattle.simulator.specs.Run.{verdict_byte, verdict_of, run_cycle, run_cycles, run_end, ran_to, run_as, run_of}

-- one input and four latches, of which the last two are uninitialised, the others with resets 0 and 1
abbrev numbers : List ℕ
numbers = 5 ∷ 1 ∷ 4 ∷ 1 ∷ 0 ∷ 2 ∷ 0 ∷ 2 ∷ 1 ∷ 2 ∷ 8 ∷ 2 ∷ 10 ∷ 2 ∷ []

abbrev tally : ℕ → ℕ → ℕ → Tally
tally c r d = record { cycles = c; rejected = r; checked = d }

-- all zeros, all ones, 0xAAAA.. and 0xCCCC..; the tally is cleared, and the surplus of the latch buffer stays
starts : start_of numbers (9 ∷ 9 ∷ 9 ∷ 9 ∷ 7 ∷ []) (tally 5 3 2)
    ≡ start_end (record { outcome = (Ok tt); tally = tally 0 0 0 }) (0 ∷ 18446744073709551615 ∷ 12297829382473034410 ∷ 14757395258967641292 ∷ 7 ∷ [])
unfolding start_of start_as start_words start_bit start_check has_latches is_netlist is_outline header_ok output_ok latch_ok gate_ok is_within is_free free_count each lane number_of word_of literal_of
starts = refl

-- a refused start leaves the latch buffer and the tally as they were
starts-not : start_of numbers (9 ∷ 9 ∷ 9 ∷ []) (tally 5 3 2) ≡ start_end (record { outcome = Err ShortBuffer; tally = tally 5 3 2 }) (9 ∷ 9 ∷ 9 ∷ [])
unfolding start_of start_as start_check has_latches is_netlist is_outline header_ok output_ok latch_ok gate_ok is_within is_free free_count each literal_of
starts-not = refl

-- resets own, 0, own, 1, own: the words of the uninitialised ones in latch order
starts_mixed : start_of (6 ∷ 1 ∷ 5 ∷ 1 ∷ 0 ∷ 2 ∷ 4 ∷ 2 ∷ 0 ∷ 2 ∷ 8 ∷ 2 ∷ 1 ∷ 2 ∷ 12 ∷ 2 ∷ []) (9 ∷ 9 ∷ 9 ∷ 9 ∷ 9 ∷ []) (tally 5 3 2)
    ≡ start_end (record { outcome = (Ok tt); tally = tally 0 0 0 }) (12297829382473034410 ∷ 0 ∷ 14757395258967641292 ∷ 18446744073709551615 ∷ 17361641481138401520 ∷ [])
unfolding start_of start_as start_words start_bit start_check has_latches is_netlist is_outline header_ok output_ok latch_ok gate_ok is_within is_free free_count each lane number_of word_of literal_of
starts_mixed = refl

-- six uninitialised latches
starts_six : start_of (7 ∷ 1 ∷ 6 ∷ 1 ∷ 0 ∷ 2 ∷ 4 ∷ 2 ∷ 6 ∷ 2 ∷ 8 ∷ 2 ∷ 10 ∷ 2 ∷ 12 ∷ 2 ∷ 14 ∷ 2 ∷ []) (9 ∷ 9 ∷ 9 ∷ 9 ∷ 9 ∷ 9 ∷ []) (tally 5 3 2)
    ≡ start_end (record { outcome = (Ok tt); tally = tally 0 0 0 }) (12297829382473034410 ∷ 14757395258967641292 ∷ 17361641481138401520 ∷ 18374966859414961920 ∷ 18446462603027742720 ∷ 18446744069414584320 ∷ [])
unfolding start_of start_as start_words start_bit start_check has_latches is_netlist is_outline header_ok output_ok latch_ok gate_ok is_within is_free free_count each lane number_of word_of literal_of
starts_six = refl

-- a seventh is no netlist, which is told before the short buffer
starts_seven : start_of (8 ∷ 1 ∷ 7 ∷ 1 ∷ 0 ∷ 2 ∷ 4 ∷ 2 ∷ 6 ∷ 2 ∷ 8 ∷ 2 ∷ 10 ∷ 2 ∷ 12 ∷ 2 ∷ 14 ∷ 2 ∷ 16 ∷ 2 ∷ []) (9 ∷ []) (tally 5 3 2)
    ≡ start_end (record { outcome = Err NotNetlist; tally = tally 5 3 2 }) (9 ∷ [])
unfolding start_of start_as start_check is_netlist is_outline header_ok output_ok latch_ok gate_ok is_within is_free free_count each literal_of
starts_seven = refl

-- without a latch nothing is filled
starts_none : start_of (1 ∷ 1 ∷ 0 ∷ 1 ∷ 0 ∷ 2 ∷ []) (9 ∷ []) (tally 5 3 2) ≡ start_end (record { outcome = (Ok tt); tally = tally 0 0 0 }) (9 ∷ [])
unfolding start_of start_as start_words start_check has_latches is_netlist is_outline header_ok output_ok latch_ok gate_ok is_within is_free free_count each literal_of
starts_none = refl

-- ---- verdicts
verdicts : map verdict_of ([] ∷ (0 ∷ []) ∷ (1 ∷ []) ∷ (0 ∷ 0 ∷ 1 ∷ []) ∷ (1 ∷ 0 ∷ 0 ∷ []) ∷ (0 ∷ 1 ∷ 0 ∷ []) ∷ (1 ∷ 1 ∷ 1 ∷ []) ∷ (0 ∷ 0 ∷ 0 ∷ []) ∷ [])
    ≡ Accepted ∷ Accepted ∷ Rejected ∷ Rejected ∷ Rejected ∷ Rejected ∷ Rejected ∷ Accepted ∷ []
unfolding verdict_of
verdicts = refl

-- ---- runs on the netlist whose output is its one input, so that 0 is rejected and 1 accepted
abbrev wire : List ℕ
wire = 1 ∷ 1 ∷ 0 ∷ 1 ∷ 0 ∷ 2 ∷ []

-- 1, 0, 1: the last cycle is accepted, the run is not; the surplus of each buffer stays
runs-rejected : run_of wire (49 ∷ 10 ∷ 48 ∷ 10 ∷ 49 ∷ 10 ∷ []) (9 ∷ []) (9 ∷ 9 ∷ 9 ∷ []) (9 ∷ 9 ∷ 9 ∷ 9 ∷ []) (tally 5 3 2)
    ≡ run_end (record { outcome = Ok Rejected; tally = tally 8 4 2 }) (9 ∷ []) (0 ∷ 18446744073709551615 ∷ 9 ∷ []) (0 ∷ 1 ∷ 0 ∷ 9 ∷ [])
unfolding run_of run_as ran_to run_cycles run_cycle verdict_byte verdict_of run_check is_short fault_of fault_from fits_line line_count cycles_of cycles_from is_bit has_room counted is_rejected is_checked has_latches has_values is_netlist is_outline header_ok output_ok latch_ok gate_ok is_within is_free free_count each lane number_of word_of literal_of variable_of is_inverted output_word word_checked latches_after values_after cycle_words output_of next_of nexts_of values_of front gates_of gate_of bit_of lit_of signed
runs-rejected = refl

-- on that tally, with a surplus byte that is not 0: a run on 1 is accepted, and so is a run of no cycle
runs-accepted : run_of wire (49 ∷ 10 ∷ []) [] (9 ∷ 9 ∷ []) (9 ∷ 1 ∷ []) (tally 8 4 2)
    ≡ run_end (record { outcome = Ok Accepted; tally = tally 9 4 2 }) [] (0 ∷ 18446744073709551615 ∷ []) (0 ∷ 1 ∷ [])
unfolding run_of run_as ran_to run_cycles run_cycle verdict_byte verdict_of run_check is_short fault_of fault_from fits_line line_count cycles_of cycles_from is_bit has_room counted is_rejected is_checked has_latches has_values is_netlist is_outline header_ok output_ok latch_ok gate_ok is_within is_free free_count each lane number_of word_of literal_of variable_of is_inverted output_word word_checked latches_after values_after cycle_words output_of next_of nexts_of values_of front gates_of gate_of bit_of lit_of signed
runs-accepted = refl

runs_none : run_of wire [] [] (9 ∷ 9 ∷ []) (1 ∷ []) (tally 9 4 2) ≡ run_end (record { outcome = Ok Accepted; tally = tally 9 4 2 }) [] (9 ∷ 9 ∷ []) (1 ∷ [])
unfolding run_of run_as ran_to run_cycles verdict_of run_check is_short fault_of fault_from line_count cycles_of cycles_from has_room has_latches has_values is_netlist is_outline header_ok output_ok latch_ok gate_ok is_within is_free free_count each literal_of
runs_none = refl

-- ---- the third number
-- one output: the second word is 0, and the third number stays
steps-one : step_of wire (48 ∷ []) [] (9 ∷ 9 ∷ []) (tally 5 3 2) ≡ step_end (record { outcome = Ok (0, 0); tally = tally 6 4 2 }) [] (0 ∷ 0 ∷ [])
unfolding step_of step_as step_check is_cycle is_bit has_room counted is_rejected is_checked has_latches has_values is_netlist is_outline header_ok output_ok latch_ok gate_ok is_within is_free free_count each lane literal_of variable_of is_inverted output_word word_checked latches_after values_after cycle_words output_of next_of nexts_of values_of front gates_of gate_of bit_of lit_of signed
steps-one = refl

-- two outputs, the input and an uninitialised latch that keeps its word: 0xAAAA.. is high in some lanes, and counts once
abbrev pair : List ℕ
pair = 2 ∷ 1 ∷ 1 ∷ 2 ∷ 0 ∷ 4 ∷ 4 ∷ 2 ∷ 4 ∷ []

steps-checked : step_of pair (49 ∷ []) (12297829382473034410 ∷ []) (9 ∷ 9 ∷ 9 ∷ []) (tally 5 3 2)
    ≡ step_end (record { outcome = Ok (18446744073709551615, 12297829382473034410); tally = tally 6 3 3 }) (12297829382473034410 ∷ []) (0 ∷ 18446744073709551615 ∷ 12297829382473034410 ∷ [])
unfolding step_of step_as step_check is_cycle is_bit has_room counted is_rejected is_checked has_latches has_values is_netlist is_outline header_ok output_ok latch_ok gate_ok is_within is_free free_count each lane literal_of variable_of is_inverted output_word word_checked latches_after values_after cycle_words output_of next_of nexts_of values_of front gates_of gate_of bit_of lit_of signed
steps-checked = refl

steps-unchecked : step_of pair (48 ∷ []) (0 ∷ []) (9 ∷ 9 ∷ 9 ∷ []) (tally 5 3 2) ≡ step_end (record { outcome = Ok (0, 0); tally = tally 6 4 2 }) (0 ∷ []) (0 ∷ 0 ∷ 0 ∷ [])
unfolding step_of step_as step_check is_cycle is_bit has_room counted is_rejected is_checked has_latches has_values is_netlist is_outline header_ok output_ok latch_ok gate_ok is_within is_free free_count each lane literal_of variable_of is_inverted output_word word_checked latches_after values_after cycle_words output_of next_of nexts_of values_of front gates_of gate_of bit_of lit_of signed
steps-unchecked = refl

-- a run counts both cycles as checked; its bytes and its verdict are of the first output alone
runs-checked : run_of pair (49 ∷ 10 ∷ 48 ∷ 10 ∷ []) (1 ∷ []) (9 ∷ 9 ∷ 9 ∷ []) (9 ∷ 9 ∷ []) (tally 5 3 2)
    ≡ run_end (record { outcome = Ok Rejected; tally = tally 7 4 4 }) (1 ∷ []) (0 ∷ 0 ∷ 1 ∷ []) (0 ∷ 1 ∷ [])
unfolding run_of run_as ran_to run_cycles run_cycle verdict_byte verdict_of run_check is_short fault_of fault_from fits_line line_count cycles_of cycles_from is_bit has_room counted is_rejected is_checked has_latches has_values is_netlist is_outline header_ok output_ok latch_ok gate_ok is_within is_free free_count each lane number_of word_of literal_of variable_of is_inverted output_word word_checked latches_after values_after cycle_words output_of next_of nexts_of values_of front gates_of gate_of bit_of lit_of signed
runs-checked = refl

-- 17 guards it, though with one output it would not move; a refused call changes nothing
steps-full : step_of wire (49 ∷ []) [] (9 ∷ 9 ∷ []) (tally 0 0 4294967295) ≡ step_end (record { outcome = Err FullTally; tally = tally 0 0 4294967295 }) [] (9 ∷ 9 ∷ [])
unfolding step_of step_as step_check is_cycle is_bit has_room counted is_rejected is_checked has_latches has_values is_netlist is_outline header_ok output_ok latch_ok gate_ok is_within is_free free_count each lane literal_of variable_of is_inverted output_word word_checked latches_after values_after cycle_words output_of next_of nexts_of values_of front gates_of gate_of bit_of lit_of signed
steps-full = refl

runs-full : run_of wire (49 ∷ 10 ∷ 49 ∷ 10 ∷ []) [] (9 ∷ 9 ∷ []) (9 ∷ 9 ∷ []) (tally 0 0 4294967294)
    ≡ run_end (record { outcome = Err FullTally; tally = tally 0 0 4294967294 }) [] (9 ∷ 9 ∷ []) (9 ∷ 9 ∷ [])
unfolding run_of run_as ran_to run_cycles run_cycle verdict_byte verdict_of run_check is_short fault_of fault_from fits_line line_count cycles_of cycles_from is_bit has_room counted is_rejected is_checked has_latches has_values is_netlist is_outline header_ok output_ok latch_ok gate_ok is_within is_free free_count each lane number_of word_of literal_of variable_of is_inverted output_word word_checked latches_after values_after cycle_words output_of next_of nexts_of values_of front gates_of gate_of bit_of lit_of signed
runs-full = refl

runs_last : run_of wire (49 ∷ 10 ∷ []) [] (9 ∷ 9 ∷ []) (9 ∷ 9 ∷ []) (tally 0 0 4294967294)
    ≡ run_end (record { outcome = Ok Accepted; tally = tally 1 0 4294967294 }) [] (0 ∷ 18446744073709551615 ∷ []) (0 ∷ 9 ∷ [])
unfolding run_of run_as ran_to run_cycles run_cycle verdict_byte verdict_of run_check is_short fault_of fault_from fits_line line_count cycles_of cycles_from is_bit has_room counted is_rejected is_checked has_latches has_values is_netlist is_outline header_ok output_ok latch_ok gate_ok is_within is_free free_count each lane number_of word_of literal_of variable_of is_inverted output_word word_checked latches_after values_after cycle_words output_of next_of nexts_of values_of front gates_of gate_of bit_of lit_of signed
runs_last = refl
