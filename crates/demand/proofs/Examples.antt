-- Demand 3 on document 01's graph G, and the same computed through start and run; 48 is `0`, 49 is `1`, 10 ends a line. Assumes nothing.
use Rattle.std.specs.Prelude.{Ok}
use Prim.Native.Nat.{ℕ}
use mathlib.Core.Path.{◌≡◌, refl}
use mathlib.Core.Bool.{true, false}
use mathlib.Core.List.{List, [], ◌∷◌, ◌++◌}
use lib.Dec.{lit≤, lit<}
use lib.ListN.{length}
use Rattle.netlist.specs.Literals.{literal_of, variable_of, is_inverted}
use Rattle.netlist.specs.Lanes.{lane, each, number_of, word_of}
use Rattle.netlist.specs.Meaning.{signed, lit_of, bit_of, gate_of, front, values_of, nexts_of, next_of, output_of}
use Rattle.netlist.specs.Valid.{header_ok, is_within, is_free, latch_ok, free_count, output_ok, gate_ok, is_outline, is_netlist}
use Rattle.assertion.specs.declared.Mode.TheVariants.{Unsaid}
use Rattle.assertion.specs.Graph.{Bytes, signal, constant, alike, signals_from, constants_from, Name, Graph, bits_of, signal_bits, constant_bits, is_terminal}
use Rattle.circuit.specs.Build.{first_edge_latch, first_gate, alike_of, bit_literal, formula, happy_or, condemned_or, edge_piece, masked, gathered, judged, accepted, gates_of}
use Rattle.circuit.specs.Gates.{inv, gate}
use Rattle.circuit.specs.Numbers.{numbers_with, numbers_of}
use Rattle.circuit.proofs.Fits.{Fits}
use Rattle.calls.specs.declared.tally.Tally.{Tally}
use Rattle.calls.specs.Tallies.{is_rejected, is_checked, counted, has_room}
use Rattle.trace.specs.Traces.{is_bit, fits_line, fault_from, fault_of, line_count, cycles_from, cycles_of}
use Rattle.calls.specs.Refusals.{is_short, has_latches, has_values, start_check, run_check}
use Rattle.simulator.specs.declared.outcome.Verdict.TheVariants.{Accepted, Rejected}
use Rattle.simulator.specs.Start.{start_bit, start_words, start_as, start_of}
use Rattle.simulator.specs.Step.{cycle_words, output_word, word_checked, latches_after, values_after}
use Rattle.simulator.specs.Run.{verdict_byte, verdict_of, run_cycle, run_cycles, ran_to, run_as, run_of}
use Rattle.demand.specs.Calls.{Call, run_call, Kept, ran, called, run_gives}
use Rattle.demand.specs.Demand.{kept_by, Demand3}
use Rattle.demand.proofs.Demand.{demand3}

abbrev p : Bytes
p = 112 ∷ []

abbrev q : Bytes
q = 113 ∷ []

abbrev one : Bytes → Name
one n = record { name = n; width = 1 }

-- `S p`, `S q`, `V a`, `V b`, `E a b t p q`
abbrev G : Graph
G =
    record {
      mode = Unsaid;
      signals = one p ∷ one q ∷ [];
      constants = [];
      vertices = (97 ∷ []) ∷ (98 ∷ []) ∷ [];
      edges = record { from = 0; to = 1; marked = true; antecedent = signal 0; consequent = signal 1; antecedent_text = p; consequent_text = q } ∷ [];
    }

fits : Fits G
unfolding signal_bits constant_bits bits_of
fits =
    record {
      constants = lit≤ tt;
      signals = lit≤ tt;
      vertices = lit≤ tt;
      edges = (record { antecedent = lit< tt; consequent = lit< tt; from = lit< tt; to = lit< tt }, tt);
    }

demand_of_G : (surplus : List ℕ) → Demand3 false G (numbers_of G ++ surplus) (length (gates_of G))
unfolding gates_of accepted judged gathered masked first_gate first_edge_latch signal_bits constant_bits bits_of edge_piece condemned_or happy_or formula is_terminal
demand_of_G = demand3 false G fits (lit≤ tt)

-- ---- the same, computed
abbrev numbers : List ℕ
numbers = 12 ∷ 3 ∷ 2 ∷ 1 ∷ 7 ∷ 18 ∷ 0 ∷ 25 ∷ 0 ∷ 24 ∷ 8 ∷ 3 ∷ 10 ∷ 3 ∷ 4 ∷ 2 ∷ 16 ∷ 6 ∷ 16 ∷ 7 ∷ 4 ∷ 0 ∷ 23 ∷ 21 ∷ []

abbrev tally : ℕ → ℕ → Tally
tally c r = record { cycles = c; rejected = r; checked = 0 }

-- start is accepted with two latch words
starts : start_check numbers 2 ≡ Ok tt
unfolding start_check has_latches is_netlist is_outline header_ok output_ok latch_ok gate_ok is_within is_free free_count each literal_of
starts = refl

abbrev begun : Kept
begun = kept_by (start_of numbers (5 ∷ 6 ∷ []) (tally 7 7))

abbrev values : List ℕ
values = 0 ∷ 0 ∷ 0 ∷ 0 ∷ 0 ∷ 0 ∷ 0 ∷ 0 ∷ 0 ∷ 0 ∷ 0 ∷ 0 ∷ 0 ∷ []

-- 110, 111, 010: the first cycle is rejected, and the surplus of the verdict buffer stays
abbrev trace : List ℕ
trace = 49 ∷ 49 ∷ 48 ∷ 10 ∷ 49 ∷ 49 ∷ 49 ∷ 10 ∷ 48 ∷ 49 ∷ 48 ∷ 10 ∷ []

ran-bytes : (called numbers begun (run_call trace values (9 ∷ 9 ∷ 9 ∷ 9 ∷ []))).verdicts ≡ 1 ∷ 0 ∷ 0 ∷ 9 ∷ []
unfolding called run_gives run_of run_as ran_to run_cycles run_cycle verdict_byte run_check is_short fault_of fault_from fits_line line_count cycles_of cycles_from is_bit has_room counted is_rejected is_checked start_of start_as start_words start_bit start_check has_latches has_values is_netlist is_outline header_ok output_ok latch_ok gate_ok is_within is_free free_count each lane number_of word_of literal_of variable_of is_inverted output_word word_checked latches_after values_after cycle_words output_of next_of nexts_of values_of front Rattle.netlist.specs.Meaning.gates_of gate_of bit_of lit_of signed
ran-bytes = refl

ran-tally : (called numbers begun (run_call trace values (9 ∷ 9 ∷ 9 ∷ 9 ∷ []))).kept.tally ≡ tally 3 1
unfolding called run_gives run_of run_as ran_to run_cycles run_cycle verdict_byte run_check is_short fault_of fault_from fits_line line_count cycles_of cycles_from is_bit has_room counted is_rejected is_checked start_of start_as start_words start_bit start_check has_latches has_values is_netlist is_outline header_ok output_ok latch_ok gate_ok is_within is_free free_count each lane number_of word_of literal_of variable_of is_inverted output_word word_checked latches_after values_after cycle_words output_of next_of nexts_of values_of front Rattle.netlist.specs.Meaning.gates_of gate_of bit_of lit_of signed
ran-tally = refl

-- the last cycle is accepted, the run is not
ran-verdict : (called numbers begun (run_call trace values (9 ∷ 9 ∷ 9 ∷ 9 ∷ []))).answer ≡ ran (Ok Rejected)
unfolding called run_gives run_of run_as ran_to run_cycles run_cycle verdict_byte verdict_of run_check is_short fault_of fault_from fits_line line_count cycles_of cycles_from is_bit has_room counted is_rejected is_checked start_of start_as start_words start_bit start_check has_latches has_values is_netlist is_outline header_ok output_ok latch_ok gate_ok is_within is_free free_count each lane number_of word_of literal_of variable_of is_inverted output_word word_checked latches_after values_after cycle_words output_of next_of nexts_of values_of front Rattle.netlist.specs.Meaning.gates_of gate_of bit_of lit_of signed
ran-verdict = refl

-- two runs on one tally, first 110, then 111: each has the verdict of its own cycles
abbrev after_110 : Kept
after_110 = (called numbers begun (run_call (49 ∷ 49 ∷ 48 ∷ 10 ∷ []) values (9 ∷ []))).kept

first-verdict : (called numbers begun (run_call (49 ∷ 49 ∷ 48 ∷ 10 ∷ []) values (9 ∷ []))).answer ≡ ran (Ok Rejected)
unfolding called run_gives run_of run_as ran_to run_cycles run_cycle verdict_byte verdict_of run_check is_short fault_of fault_from fits_line line_count cycles_of cycles_from is_bit has_room counted is_rejected is_checked start_of start_as start_words start_bit start_check has_latches has_values is_netlist is_outline header_ok output_ok latch_ok gate_ok is_within is_free free_count each lane number_of word_of literal_of variable_of is_inverted output_word word_checked latches_after values_after cycle_words output_of next_of nexts_of values_of front Rattle.netlist.specs.Meaning.gates_of gate_of bit_of lit_of signed
first-verdict = refl

second-verdict : (called numbers after_110 (run_call (49 ∷ 49 ∷ 49 ∷ 10 ∷ []) values (9 ∷ []))).answer ≡ ran (Ok Accepted)
unfolding called run_gives run_of run_as ran_to run_cycles run_cycle verdict_byte verdict_of run_check is_short fault_of fault_from fits_line line_count cycles_of cycles_from is_bit has_room counted is_rejected is_checked start_of start_as start_words start_bit start_check has_latches has_values is_netlist is_outline header_ok output_ok latch_ok gate_ok is_within is_free free_count each lane number_of word_of literal_of variable_of is_inverted output_word word_checked latches_after values_after cycle_words output_of next_of nexts_of values_of front Rattle.netlist.specs.Meaning.gates_of gate_of bit_of lit_of signed
second-verdict = refl

-- a run with a verdict buffer that is too short is refused: it gives no cycle, and the tally stays
refused-run : (called numbers begun (run_call trace values (9 ∷ 9 ∷ []))).cycles ≡ []
unfolding called run_gives run_of run_as run_check is_short fault_of fault_from fits_line line_count is_bit has_room start_of start_as start_words start_check has_latches has_values is_netlist is_outline header_ok output_ok latch_ok gate_ok is_within is_free free_count each literal_of
refused-run = refl

refused-tally : (called numbers begun (run_call trace values (9 ∷ 9 ∷ []))).kept.tally ≡ tally 0 0
unfolding called run_gives run_of run_as run_check is_short fault_of fault_from fits_line line_count is_bit has_room start_of start_as start_words start_check has_latches has_values is_netlist is_outline header_ok output_ok latch_ok gate_ok is_within is_free free_count each literal_of
refused-tally = refl

-- ---- wide names: `S a 2`, `K k 2`, `V v`, `E v v t a==k k[1]` on 100, 110, 101, 111, over all settings of k
abbrev G_wide : Graph
G_wide =
    record {
      mode = Unsaid;
      signals = record { name = 97 ∷ []; width = 2 } ∷ [];
      constants = record { name = 107 ∷ []; width = 2 } ∷ [];
      vertices = (118 ∷ []) ∷ [];
      edges =
          record {
            from = 0;
            to = 0;
            marked = true;
            antecedent = alike (signals_from 0) (constants_from 0) 2;
            consequent = constant 1;
            antecedent_text = 97 ∷ 61 ∷ 61 ∷ 107 ∷ [];
            consequent_text = 107 ∷ 91 ∷ 49 ∷ 93 ∷ [];
          }
          ∷ [];
    }

abbrev wide-numbers : List ℕ
wide-numbers =
    22 ∷ 3 ∷ 4 ∷ 1 ∷ 15 ∷ 8 ∷ 8 ∷ 10 ∷ 10 ∷ 38 ∷ 0 ∷ 45 ∷ 0 ∷ 44 ∷ 12 ∷ 3 ∷ 14 ∷ 3 ∷ 17 ∷ 3 ∷ 8 ∷ 4
    ∷ 9 ∷ 5 ∷ 25 ∷ 23 ∷ 10 ∷ 6 ∷ 11 ∷ 7 ∷ 31 ∷ 29 ∷ 33 ∷ 27 ∷ 34 ∷ 21 ∷ 36 ∷ 10 ∷ 36 ∷ 11 ∷ 34 ∷ 18 ∷ 43 ∷ 41 ∷ []

wide-built : numbers_of G_wide ≡ wide-numbers
unfolding numbers_with gates_of accepted judged gathered masked first_gate first_edge_latch signal_bits constant_bits bits_of edge_piece condemned_or happy_or formula alike_of bit_literal gate inv literal_of variable_of is_inverted is_terminal
wide-built = refl

abbrev wide_begun : Kept
wide_begun = kept_by (start_of wide-numbers (0 ∷ 0 ∷ 0 ∷ 0 ∷ []) (tally 0 0))

abbrev wide-values : List ℕ
wide-values = 0 ∷ 0 ∷ 0 ∷ 0 ∷ 0 ∷ 0 ∷ 0 ∷ 0 ∷ 0 ∷ 0 ∷ 0 ∷ 0 ∷ 0 ∷ 0 ∷ 0 ∷ 0 ∷ 0 ∷ 0 ∷ 0 ∷ 0 ∷ 0 ∷ 0 ∷ 0 ∷ []

abbrev wide-run : Call
wide-run = run_call (49 ∷ 48 ∷ 48 ∷ 10 ∷ 49 ∷ 49 ∷ 48 ∷ 10 ∷ 49 ∷ 48 ∷ 49 ∷ 10 ∷ 49 ∷ 49 ∷ 49 ∷ 10 ∷ []) wide-values (9 ∷ 9 ∷ 9 ∷ 9 ∷ [])

wide-bytes : (called wide-numbers wide_begun wide-run).verdicts ≡ 1 ∷ 1 ∷ 0 ∷ 0 ∷ []
unfolding called run_gives run_of run_as ran_to run_cycles run_cycle verdict_byte run_check is_short fault_of fault_from fits_line line_count cycles_of cycles_from is_bit has_room counted is_rejected is_checked start_of start_as start_words start_bit start_check has_latches has_values is_netlist is_outline header_ok output_ok latch_ok gate_ok is_within is_free free_count each lane number_of word_of literal_of variable_of is_inverted output_word word_checked latches_after values_after cycle_words output_of next_of nexts_of values_of front Rattle.netlist.specs.Meaning.gates_of gate_of bit_of lit_of signed
wide-bytes = refl

wide-tally : (called wide-numbers wide_begun wide-run).kept.tally ≡ tally 4 2
unfolding called run_gives run_of run_as ran_to run_cycles run_cycle verdict_byte run_check is_short fault_of fault_from fits_line line_count cycles_of cycles_from is_bit has_room counted is_rejected is_checked start_of start_as start_words start_bit start_check has_latches has_values is_netlist is_outline header_ok output_ok latch_ok gate_ok is_within is_free free_count each lane number_of word_of literal_of variable_of is_inverted output_word word_checked latches_after values_after cycle_words output_of next_of nexts_of values_of front Rattle.netlist.specs.Meaning.gates_of gate_of bit_of lit_of signed
wide-tally = refl
