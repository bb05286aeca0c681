-- Document 02, No. 7, by computation: the three numbers of the tally and the second words of steps. 48 is `0`, 49 is `1`, 10 ends a line. Assumes nothing.
use Rattle.std.specs.Prelude.{Ok}
use Prim.Native.Nat.{ℕ}
use mathlib.Core.Path.{◌≡◌, refl}
use mathlib.Core.List.{List, [], ◌∷◌}
use lib.ListN.{replicate}
use Rattle.netlist.specs.Literals.{literal_of, variable_of, is_inverted}
use Rattle.netlist.specs.Lanes.{lane, each, number_of, word_of}
use Rattle.netlist.specs.Meaning.{signed, lit_of, bit_of, gate_of, front, values_of, nexts_of, next_of, output_of}
use Rattle.netlist.specs.Valid.{header_ok, is_within, is_free, latch_ok, free_count, output_ok, gate_ok, is_outline, is_netlist}
use Rattle.calls.specs.declared.tally.Tally.{Tally}
use Rattle.calls.specs.Tallies.{cleared, is_rejected, is_checked, counted, has_room}
use Rattle.calls.specs.Refusals.{is_short, has_latches, has_values, start_check, step_check, run_check}
use Rattle.trace.specs.Traces.{is_bit, is_cycle, fits_line, fault_from, fault_of, line_count, cycles_from, cycles_of}
use Rattle.simulator.specs.Start.{start_bit, start_words, start_as, start_of}
use Rattle.simulator.specs.Step.{cycle_words, output_word, word_checked, latches_after, values_after, step_as, step_of}
use Rattle.simulator.specs.Run.{verdict_byte, verdict_of, run_cycle, run_cycles, ran_to, run_as, run_of}
use Rattle.demand.specs.Calls.{Call, step_call, run_call, Kept, Answer, stepped, called, step_gives, run_gives}
use Rattle.demand.specs.Demand.{kept_by}

-- what is kept after a start with this many latch words
abbrev begun : List ℕ → ℕ → Kept
begun net n = kept_by (start_of net (replicate n 7) (record { cycles = 5; rejected = 5; checked = 5 }))

-- the tally after a run on this trace
abbrev after : List ℕ → ℕ → List ℕ → Tally
after net n trace = (called net (begun net n) (run_call trace (replicate 32 0) (9 ∷ 9 ∷ 9 ∷ []))).kept.tally

-- the answer of a first step on this cycle
abbrev first : List ℕ → ℕ → List ℕ → Answer
first net n cycle = (called net (begun net n) (step_call cycle (replicate 32 0))).answer

abbrev tally : ℕ → ℕ → ℕ → Tally
tally c r k = record { cycles = c; rejected = r; checked = k }

abbrev ones : ℕ
ones = 18446744073709551615

-- G without checked, and with it
abbrev without : List ℕ
without = 12 ∷ 3 ∷ 2 ∷ 1 ∷ 7 ∷ 18 ∷ 0 ∷ 25 ∷ 0 ∷ 24 ∷ 8 ∷ 3 ∷ 10 ∷ 3 ∷ 4 ∷ 2 ∷ 16 ∷ 6 ∷ 16 ∷ 7 ∷ 4 ∷ 0 ∷ 23 ∷ 21 ∷ []

abbrev with_checked : List ℕ
with_checked = 13 ∷ 3 ∷ 2 ∷ 2 ∷ 8 ∷ 18 ∷ 0 ∷ 25 ∷ 0 ∷ 24 ∷ 27 ∷ 8 ∷ 3 ∷ 10 ∷ 3 ∷ 4 ∷ 2 ∷ 16 ∷ 6 ∷ 16 ∷ 7 ∷ 4 ∷ 0 ∷ 23 ∷ 21 ∷ 24 ∷ 19 ∷ []

-- `S p`, `K k`, `V a`, `E a a t k p` with checked
abbrev constant : List ℕ
constant = 14 ∷ 2 ∷ 3 ∷ 2 ∷ 9 ∷ 6 ∷ 6 ∷ 20 ∷ 0 ∷ 27 ∷ 0 ∷ 26 ∷ 29 ∷ 8 ∷ 3 ∷ 10 ∷ 3 ∷ 13 ∷ 3 ∷ 17 ∷ 6 ∷ 18 ∷ 4 ∷ 18 ∷ 5 ∷ 14 ∷ 6 ∷ 25 ∷ 23 ∷ 26 ∷ 21 ∷ []

-- 110, 111, 010
abbrev trace : List ℕ
trace = 49 ∷ 49 ∷ 48 ∷ 10 ∷ 49 ∷ 49 ∷ 49 ∷ 10 ∷ 48 ∷ 49 ∷ 48 ∷ 10 ∷ []

-- in the first two cycles a rule was at stake
third_with : after with_checked 2 trace ≡ tally 3 1 2
unfolding called step_gives run_gives step_of step_as step_check run_of run_as ran_to run_cycles run_cycle verdict_byte verdict_of run_check is_short fault_of fault_from fits_line line_count cycles_of cycles_from is_bit is_cycle has_room counted is_rejected is_checked start_of start_as start_words start_bit start_check has_latches has_values is_netlist is_outline header_ok output_ok latch_ok gate_ok is_within is_free free_count each lane number_of word_of literal_of variable_of is_inverted output_word word_checked latches_after values_after cycle_words output_of next_of nexts_of values_of front Rattle.netlist.specs.Meaning.gates_of gate_of bit_of lit_of signed
third_with = refl

-- built without, the third number does not move
third_without : after without 2 trace ≡ tally 3 1 0
unfolding called step_gives run_gives step_of step_as step_check run_of run_as ran_to run_cycles run_cycle verdict_byte verdict_of run_check is_short fault_of fault_from fits_line line_count cycles_of cycles_from is_bit is_cycle has_room counted is_rejected is_checked start_of start_as start_words start_bit start_check has_latches has_values is_netlist is_outline header_ok output_ok latch_ok gate_ok is_within is_free free_count each lane number_of word_of literal_of variable_of is_inverted output_word word_checked latches_after values_after cycle_words output_of next_of nexts_of values_of front Rattle.netlist.specs.Meaning.gates_of gate_of bit_of lit_of signed
third_without = refl

-- 010 without init
no_init : after with_checked 2 (48 ∷ 49 ∷ 48 ∷ 10 ∷ []) ≡ tally 1 0 0
unfolding called step_gives run_gives step_of step_as step_check run_of run_as ran_to run_cycles run_cycle verdict_byte verdict_of run_check is_short fault_of fault_from fits_line line_count cycles_of cycles_from is_bit is_cycle has_room counted is_rejected is_checked start_of start_as start_words start_bit start_check has_latches has_values is_netlist is_outline header_ok output_ok latch_ok gate_ok is_within is_free free_count each lane number_of word_of literal_of variable_of is_inverted output_word word_checked latches_after values_after cycle_words output_of next_of nexts_of values_of front Rattle.netlist.specs.Meaning.gates_of gate_of bit_of lit_of signed
no_init = refl

-- both words of a step on 110: rejected, and a rule at stake, in every lane
words_with : first with_checked 2 (49 ∷ 49 ∷ 48 ∷ []) ≡ stepped (Ok (0, ones))
unfolding called step_gives run_gives step_of step_as step_check run_of run_as ran_to run_cycles run_cycle verdict_byte verdict_of run_check is_short fault_of fault_from fits_line line_count cycles_of cycles_from is_bit is_cycle has_room counted is_rejected is_checked start_of start_as start_words start_bit start_check has_latches has_values is_netlist is_outline header_ok output_ok latch_ok gate_ok is_within is_free free_count each lane number_of word_of literal_of variable_of is_inverted output_word word_checked latches_after values_after cycle_words output_of next_of nexts_of values_of front Rattle.netlist.specs.Meaning.gates_of gate_of bit_of lit_of signed
words_with = refl

-- the second is 0 where there is one output
words-without : first without 2 (49 ∷ 49 ∷ 48 ∷ []) ≡ stepped (Ok (0, 0))
unfolding called step_gives run_gives step_of step_as step_check run_of run_as ran_to run_cycles run_cycle verdict_byte verdict_of run_check is_short fault_of fault_from fits_line line_count cycles_of cycles_from is_bit is_cycle has_room counted is_rejected is_checked start_of start_as start_words start_bit start_check has_latches has_values is_netlist is_outline header_ok output_ok latch_ok gate_ok is_within is_free free_count each lane number_of word_of literal_of variable_of is_inverted output_word word_checked latches_after values_after cycle_words output_of next_of nexts_of values_of front Rattle.netlist.specs.Meaning.gates_of gate_of bit_of lit_of signed
words-without = refl

-- 11: high in the lanes with k = 1, 0xAAAA AAAA AAAA AAAA
lanes_of_k : first constant 3 (49 ∷ 49 ∷ []) ≡ stepped (Ok (ones, 12297829382473034410))
unfolding called step_gives run_gives step_of step_as step_check run_of run_as ran_to run_cycles run_cycle verdict_byte verdict_of run_check is_short fault_of fault_from fits_line line_count cycles_of cycles_from is_bit is_cycle has_room counted is_rejected is_checked start_of start_as start_words start_bit start_check has_latches has_values is_netlist is_outline header_ok output_ok latch_ok gate_ok is_within is_free free_count each lane number_of word_of literal_of variable_of is_inverted output_word word_checked latches_after values_after cycle_words output_of next_of nexts_of values_of front Rattle.netlist.specs.Meaning.gates_of gate_of bit_of lit_of signed
lanes_of_k = refl

-- 11, 10: each counts once
counted-once : after constant 3 (49 ∷ 49 ∷ 10 ∷ 49 ∷ 48 ∷ 10 ∷ []) ≡ tally 2 1 2
unfolding called step_gives run_gives step_of step_as step_check run_of run_as ran_to run_cycles run_cycle verdict_byte verdict_of run_check is_short fault_of fault_from fits_line line_count cycles_of cycles_from is_bit is_cycle has_room counted is_rejected is_checked start_of start_as start_words start_bit start_check has_latches has_values is_netlist is_outline header_ok output_ok latch_ok gate_ok is_within is_free free_count each lane number_of word_of literal_of variable_of is_inverted output_word word_checked latches_after values_after cycle_words output_of next_of nexts_of values_of front Rattle.netlist.specs.Meaning.gates_of gate_of bit_of lit_of signed
counted-once = refl
