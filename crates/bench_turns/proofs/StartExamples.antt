-- The premise of the claim is met: the bench of the worked cases is eight starts with empty queues, and machine 0's
-- path count is that of document 01's graph G. Assumes nothing.
use mathlib.Core.Path.{◌≡◌, refl, subst}
use mathlib.Core.Bool.{true}
use mathlib.Core.List.{List, [], ◌∷◌, ◌++◌}
use Prim.Native.Nat.{ℕ, zero, suc, ◌<◌}
use native.Mathlib.Omega.{arith}
use lib.Dec.{lit≤, lit<}
use lib.ListN.{length}
use Rattle.netlist.specs.Literals.{literal_of, variable_of, is_inverted}
use Rattle.netlist.specs.Lanes.{lane, each, number_of, word_of}
use Rattle.netlist.specs.Valid.{header_ok, is_within, is_free, latch_ok, free_count, output_ok, gate_ok, is_outline, is_netlist}
use Rattle.assertion.specs.declared.Mode.TheVariants.{Unsaid}
use Rattle.assertion.specs.Graph.{Bytes, signal, Name, Graph, bits_of, signal_bits, constant_bits, is_terminal}
use Rattle.circuit.specs.Gates.{inv, gate}
use Rattle.circuit.specs.Build.{first_edge_latch, first_gate, formula, happy_or, condemned_or, edge_piece, masked, gathered, judged, accepted, gates_of}
use Rattle.circuit.specs.Checked.{checked_piece, gates_with}
use Rattle.circuit.specs.Numbers.{numbers_with}
use Rattle.circuit.proofs.Fits.{Fits}
use Rattle.calls.specs.Tallies.{cleared}
use Rattle.calls.specs.Refusals.{has_latches, start_check}
use Rattle.simulator.specs.Start.{start_bit, start_words, start_as, start_of}
use Rattle.demand.specs.Demand.{Demand3}
use Rattle.demand.proofs.Demand.{demand3}
use Rattle.bench_turns.specs.Parts.{part_of}
use Rattle.bench_turns.specs.Session.{Call, after_all, served}
use Rattle.bench_turns.specs.Numbers.{tally_of}
use Rattle.bench_turns.specs.Claims.{StartedPlace, Started, PathCount, BenchMeans}
use Rattle.bench_turns.proofs.SessionLaws.{bench-means}
use Rattle.bench_turns.proofs.Examples.{nets, started}

abbrev two : List ℕ
two = 0 ∷ 0 ∷ []

places : (k : ℕ) → k < 8 → StartedPlace nets k started
unfolding part_of start_of start_as start_words start_bit start_check has_latches is_outline is_netlist header_ok output_ok latch_ok gate_ok is_within is_free free_count each lane number_of word_of literal_of
places zero h = record { words = two; before = cleared; started = refl; empty = refl }
places (suc zero) h = record { words = two; before = cleared; started = refl; empty = refl }
places (suc (suc zero)) h = record { words = two; before = cleared; started = refl; empty = refl }
places (suc (suc (suc zero))) h = record { words = two; before = cleared; started = refl; empty = refl }
places (suc (suc (suc (suc zero)))) h = record { words = two; before = cleared; started = refl; empty = refl }
places (suc (suc (suc (suc (suc zero))))) h = record { words = two; before = cleared; started = refl; empty = refl }
places (suc (suc (suc (suc (suc (suc zero)))))) h = record { words = two; before = cleared; started = refl; empty = refl }
places (suc (suc (suc (suc (suc (suc (suc zero))))))) h = record { words = two; before = cleared; started = refl; empty = refl }
places (suc (suc (suc (suc (suc (suc (suc (suc k)))))))) h = absurd (omega arith)

begun : Started nets started
begun = record { numbers = lit≤ tt; last = lit≤ tt; places = places }

whatever : (xs : List Call) → BenchMeans nets started xs (after_all nets started xs)
whatever = bench-means nets started begun

-- `S p`, `S q`, `V a`, `V b`, `E a b t p q`
abbrev p : Bytes
p = 112 ∷ []

abbrev q : Bytes
q = 113 ∷ []

abbrev one : Bytes → Name
one n = record { name = n; width = 1 }

abbrev graph : Graph
graph =
    record {
      mode = Unsaid;
      signals = one p ∷ one q ∷ [];
      constants = [];
      vertices = (97 ∷ []) ∷ (98 ∷ []) ∷ [];
      edges = record { from = 0; to = 1; marked = true; antecedent = signal 0; consequent = signal 1; antecedent_text = p; consequent_text = q } ∷ [];
    }

fits : Fits graph
unfolding signal_bits constant_bits bits_of
fits =
    record {
      constants = lit≤ tt;
      signals = lit≤ tt;
      vertices = lit≤ tt;
      edges = (record { antecedent = lit< tt; consequent = lit< tt; from = lit< tt; to = lit< tt }, tt);
    }

demand_of_G : Demand3 true graph (numbers_with true graph ++ []) (length (gates_with true graph))
unfolding gates_of accepted judged gathered masked first_gate first_edge_latch signal_bits constant_bits bits_of edge_piece condemned_or happy_or formula is_terminal checked_piece
demand_of_G = demand3 true graph fits (lit≤ tt) []

numbers_of_G : numbers_with true graph ++ [] ≡ part_of 0 nets
unfolding part_of numbers_with gates_of accepted judged gathered masked first_gate first_edge_latch signal_bits constant_bits bits_of edge_piece condemned_or happy_or formula is_terminal literal_of variable_of is_inverted inv gate checked_piece
numbers_of_G = refl

-- whatever is called, machine 0's rejected cycles are those of its own served cycles that the paths of G reject, and its
-- third number counts those of them in which a rule was at stake
paths_of_G : (xs : List Call) → PathCount true graph (served nets 0 started xs) (tally_of 0 (after_all nets started xs).numbers)
paths_of_G xs =
    ((whatever xs).machines 0 (lit< tt)).paths true graph (length (gates_with true graph))
    (subst (λ (z : List ℕ). Demand3 true graph z (length (gates_with true graph))) numbers_of_G demand_of_G)
