-- Worked examples of monitors, by their numbers and by what they answer in one lane; a byte 48 is `0`, 49 is `1`. Assumes nothing.
use Prim.Native.Nat.{ℕ}
use mathlib.Core.Path.{◌≡◌, refl}
use mathlib.Core.Bool.{Bool, true, false}
use mathlib.Core.List.{List, [], ◌∷◌, map}
use lib.ListN.{length}
use Rattle.netlist.specs.Meaning.{bools, signed, lit_of, bit_of, gate_of, front, values_of, nexts_of, next_of, output_of}
use Rattle.netlist.specs.Valid.{is_free}
use Rattle.netlist.specs.Literals.{literal_of, variable_of, is_inverted}
use Rattle.assertion.specs.declared.Mode.{Mode}
use Rattle.assertion.specs.declared.Mode.TheVariants.{Unsaid, Terminal, Strong}
use Rattle.assertion.specs.Graph.{Bytes, Expr, signal, constant, truth, alike, signals_from, constants_from, Edge, Name, Graph, bits_of, signal_bits, constant_bits, Cycle, is_terminal}
use Rattle.circuit.specs.Gates.{inv, gate}
use Rattle.circuit.specs.Build.{first_edge_latch, first_gate, bit_literal, alike_of, formula, happy_or, condemned_or, edge_piece, masked, gathered, judged, accepted, gates_of}
use Rattle.circuit.specs.Numbers.{numbers_with, numbers_of}
use Rattle.circuit.specs.Count.{formula_gates, terminals, gate_formula}

abbrev p : Bytes
p = 112 ∷ []

abbrev q : Bytes
q = 113 ∷ []

-- a name of one bit, and of more
abbrev one : Bytes → Name
one n = record { name = n; width = 1 }

abbrev wide : Bytes → ℕ → Name
wide n w = record { name = n; width = w }

abbrev edge : ℕ → ℕ → Bool → Expr → Bytes → Expr → Bytes → Edge
edge f t m a at c ct =
    record { from = f; to = t; marked = m; antecedent = a; consequent = c; antecedent_text = at; consequent_text = ct }

-- `S p`, `S q`, `V a`, `V b` and these edges, under a mode and without
abbrev graph_under : Mode → List Edge → Graph
graph_under m es = record { mode = m; signals = one p ∷ one q ∷ []; constants = []; vertices = (97 ∷ []) ∷ (98 ∷ []) ∷ []; edges = es }

abbrev graph : List Edge → Graph
graph es = graph_under Unsaid es

-- `E a b t p q`, and `E b b t p 1`
abbrev first : Edge
first = edge 0 1 true (signal 0) p (signal 1) q

abbrev loop : Edge
loop = edge 1 1 true (signal 0) p (truth true) (49 ∷ [])

-- `E a b - p q`
abbrev unmarked : Edge
unmarked = edge 0 1 false (signal 0) p (signal 1) q

-- ---- document 01's numbers of G
numbers_of_G : numbers_of (graph (first ∷ []))
    ≡ 12 ∷ 3 ∷ 2 ∷ 1 ∷ 7 ∷ 18 ∷ 0 ∷ 25 ∷ 0 ∷ 24 ∷ 8 ∷ 3 ∷ 10 ∷ 3 ∷ 4 ∷ 2 ∷ 16 ∷ 6 ∷ 16 ∷ 7 ∷ 4 ∷ 0 ∷ 23 ∷ 21 ∷ []
unfolding numbers_with gates_of accepted judged gathered masked first_gate first_edge_latch signal_bits constant_bits bits_of edge_piece condemned_or happy_or formula gate inv literal_of variable_of is_inverted is_terminal
numbers_of_G = refl

-- ---- G with `E b b t p 1`: 17 gates, and the formula says so
gates_of-two : length (gates_of (graph (first ∷ loop ∷ []))) ≡ 17
unfolding gates_of accepted judged gathered masked first_gate first_edge_latch signal_bits constant_bits bits_of edge_piece condemned_or happy_or formula gate inv literal_of variable_of is_inverted is_terminal
gates_of-two = refl

formula_of-two : gate_formula (graph (first ∷ loop ∷ [])) ≡ 17
unfolding gate_formula formula_gates is_terminal
formula_of-two = refl

-- ---- G with `-` for `t`: under `M terminal` no edge is terminal, and the output is literal 1; without a mode the
-- edge is terminal, and the numbers are G's
always_accepts : (accepted (graph_under Terminal (unmarked ∷ []))).out ≡ 1
unfolding accepted judged gathered masked first_gate first_edge_latch signal_bits constant_bits bits_of edge_piece condemned_or happy_or formula gate inv literal_of variable_of is_inverted is_terminal
always_accepts = refl

unmarked-is_G : numbers_of (graph (unmarked ∷ [])) ≡ numbers_of (graph (first ∷ []))
unfolding numbers_with gates_of accepted judged gathered masked first_gate first_edge_latch signal_bits constant_bits bits_of edge_piece condemned_or happy_or formula gate inv literal_of variable_of is_inverted is_terminal
unmarked-is_G = refl

-- ---- what a monitor answers in one lane, cycle for cycle: true accepts
abbrev answers : List ℕ → List Bool → List Cycle → List Bool
answers net latches [] = []
answers net latches (c ∷ cs) =
    output_of bools net 0 (values_of bools net (map (bit_of bools) c) latches)
    ∷ answers net (next_of bools net (values_of bools net (map (bit_of bools) c) latches)) cs

-- G on 110, 111, 010: the first cycle alone is rejected
rejects-one : answers (numbers_of (graph (first ∷ []))) (false ∷ false ∷ []) ((49 ∷ 49 ∷ 48 ∷ []) ∷ (49 ∷ 49 ∷ 49 ∷ []) ∷ (48 ∷ 49 ∷ 48 ∷ []) ∷ []) ≡ false ∷ true ∷ true ∷ []
unfolding numbers_with gates_of accepted judged gathered masked first_gate first_edge_latch signal_bits constant_bits bits_of edge_piece condemned_or happy_or formula gate inv literal_of variable_of is_inverted is_terminal output_of next_of nexts_of values_of front Rattle.netlist.specs.Meaning.gates_of gate_of bit_of lit_of signed
rejects-one = refl

-- G without init, 010, and with a false antecedent, 100
no_init : answers (numbers_of (graph (first ∷ []))) (false ∷ false ∷ []) ((48 ∷ 49 ∷ 48 ∷ []) ∷ (49 ∷ 48 ∷ 48 ∷ []) ∷ []) ≡ true ∷ true ∷ []
unfolding numbers_with gates_of accepted judged gathered masked first_gate first_edge_latch signal_bits constant_bits bits_of edge_piece condemned_or happy_or formula gate inv literal_of variable_of is_inverted is_terminal output_of next_of nexts_of values_of front Rattle.netlist.specs.Meaning.gates_of gate_of bit_of lit_of signed
no_init = refl

-- G with `E b b t p 1` on 110, 011, 001: a condemned path goes on, and a false antecedent excuses it
rejects-two : answers (numbers_of (graph (first ∷ loop ∷ []))) (false ∷ false ∷ false ∷ false ∷ []) ((49 ∷ 49 ∷ 48 ∷ []) ∷ (48 ∷ 49 ∷ 49 ∷ []) ∷ (48 ∷ 48 ∷ 49 ∷ []) ∷ []) ≡ false ∷ false ∷ true ∷ []
unfolding numbers_with gates_of accepted judged gathered masked first_gate first_edge_latch signal_bits constant_bits bits_of edge_piece condemned_or happy_or formula gate inv literal_of variable_of is_inverted is_terminal output_of next_of nexts_of values_of front Rattle.netlist.specs.Meaning.gates_of gate_of bit_of lit_of signed
rejects-two = refl

-- the same on 110, 111: the path starts anew at the latest init; and on 111, 011: a happy path goes on
starts_anew : answers (numbers_of (graph (first ∷ loop ∷ []))) (false ∷ false ∷ false ∷ false ∷ []) ((49 ∷ 49 ∷ 48 ∷ []) ∷ (49 ∷ 49 ∷ 49 ∷ []) ∷ (48 ∷ 49 ∷ 49 ∷ []) ∷ []) ≡ false ∷ true ∷ true ∷ []
unfolding numbers_with gates_of accepted judged gathered masked first_gate first_edge_latch signal_bits constant_bits bits_of edge_piece condemned_or happy_or formula gate inv literal_of variable_of is_inverted is_terminal output_of next_of nexts_of values_of front Rattle.netlist.specs.Meaning.gates_of gate_of bit_of lit_of signed
starts_anew = refl

-- G with `-` for `t` under `M terminal` on 110
no_terminal : answers (numbers_of (graph_under Terminal (unmarked ∷ []))) (false ∷ false ∷ []) ((49 ∷ 49 ∷ 48 ∷ []) ∷ []) ≡ true ∷ []
unfolding numbers_with gates_of accepted judged gathered masked first_gate first_edge_latch signal_bits constant_bits bits_of edge_piece condemned_or happy_or formula gate inv literal_of variable_of is_inverted is_terminal output_of next_of nexts_of values_of front Rattle.netlist.specs.Meaning.gates_of gate_of bit_of lit_of signed
no_terminal = refl

-- ---- which edges are terminal: `V a` and `E a a - 1 0`, without a mode and under `M terminal`; then with
-- `E a a t 1 1` behind it, under `M strong`, without a mode and under `M terminal`
abbrev looped : Mode → List Edge → Graph
looped m es = record { mode = m; signals = []; constants = []; vertices = (97 ∷ []) ∷ []; edges = es }

abbrev fails : Edge
fails = edge 0 0 false (truth true) (49 ∷ []) (truth false) (48 ∷ [])

abbrev holds : Edge
holds = edge 0 0 true (truth true) (49 ∷ []) (truth true) (49 ∷ [])

abbrev five : List Graph
five = looped Unsaid (fails ∷ []) ∷ looped Terminal (fails ∷ []) ∷ looped Strong (fails ∷ holds ∷ []) ∷ looped Unsaid (fails ∷ holds ∷ []) ∷ looped Terminal (fails ∷ holds ∷ []) ∷ []

five_terminals : map (λ (g : Graph). terminals g g.edges) five ≡ 1 ∷ 0 ∷ 2 ∷ 1 ∷ 1 ∷ []
unfolding is_terminal
five_terminals = refl

five_formulas : map gate_formula five ≡ 8 ∷ 8 ∷ 18 ∷ 17 ∷ 17 ∷ []
unfolding gate_formula formula_gates is_terminal
five_formulas = refl

five_gates : map (λ (g : Graph). length (gates_of g)) five ≡ 8 ∷ 8 ∷ 18 ∷ 17 ∷ 17 ∷ []
unfolding gates_of accepted judged gathered masked first_gate first_edge_latch signal_bits constant_bits bits_of edge_piece condemned_or happy_or formula gate inv literal_of variable_of is_inverted is_terminal
five_gates = refl

-- on one cycle with init
one_answers : map (λ (m : Mode). answers (numbers_of (looped m (fails ∷ []))) (false ∷ false ∷ []) ((49 ∷ []) ∷ [])) (Unsaid ∷ Terminal ∷ []) ≡ (false ∷ []) ∷ (true ∷ []) ∷ []
unfolding numbers_with gates_of accepted judged gathered masked first_gate first_edge_latch signal_bits constant_bits bits_of edge_piece condemned_or happy_or formula gate inv literal_of variable_of is_inverted is_terminal output_of next_of nexts_of values_of front Rattle.netlist.specs.Meaning.gates_of gate_of bit_of lit_of signed
one_answers = refl

two_answers : map (λ (m : Mode). answers (numbers_of (looped m (fails ∷ holds ∷ []))) (false ∷ false ∷ false ∷ false ∷ []) ((49 ∷ []) ∷ [])) (Strong ∷ Unsaid ∷ Terminal ∷ []) ≡ (false ∷ []) ∷ (true ∷ []) ∷ (true ∷ []) ∷ []
unfolding numbers_with gates_of accepted judged gathered masked first_gate first_edge_latch signal_bits constant_bits bits_of edge_piece condemned_or happy_or formula gate inv literal_of variable_of is_inverted is_terminal output_of next_of nexts_of values_of front Rattle.netlist.specs.Meaning.gates_of gate_of bit_of lit_of signed
two_answers = refl

-- `E b b t 1 0`, `E a b - 1 1` and the other way round, each on 100, 000: the second cycle is rejected, by the path through b
abbrev to_b : Edge
to_b = edge 0 1 false (truth true) (49 ∷ []) (truth true) (49 ∷ [])

abbrev at_b : Edge
at_b = edge 1 1 true (truth true) (49 ∷ []) (truth false) (48 ∷ [])

-- the edge that enters b stands last
enters-last : answers (numbers_of (graph (at_b ∷ to_b ∷ []))) (false ∷ false ∷ false ∷ false ∷ []) ((49 ∷ 48 ∷ 48 ∷ []) ∷ (48 ∷ 48 ∷ 48 ∷ []) ∷ []) ≡ true ∷ false ∷ []
unfolding numbers_with gates_of accepted judged gathered masked first_gate first_edge_latch signal_bits constant_bits bits_of edge_piece condemned_or happy_or formula gate inv literal_of variable_of is_inverted is_terminal output_of next_of nexts_of values_of front Rattle.netlist.specs.Meaning.gates_of gate_of bit_of lit_of signed
enters-last = refl

-- the edge that enters b stands first
enters-first : answers (numbers_of (graph (to_b ∷ at_b ∷ []))) (false ∷ false ∷ false ∷ false ∷ []) ((49 ∷ 48 ∷ 48 ∷ []) ∷ (48 ∷ 48 ∷ 48 ∷ []) ∷ []) ≡ true ∷ false ∷ []
unfolding numbers_with gates_of accepted judged gathered masked first_gate first_edge_latch signal_bits constant_bits bits_of edge_piece condemned_or happy_or formula gate inv literal_of variable_of is_inverted is_terminal output_of next_of nexts_of values_of front Rattle.netlist.specs.Meaning.gates_of gate_of bit_of lit_of signed
enters-first = refl

-- `S p`, `K k`, one terminal edge `k`/`p` from the start vertex: on 10 the setting 1 rejects, and the latch of k takes every setting
abbrev G_constant : Graph
G_constant =
    record { mode = Unsaid; signals = one p ∷ []; constants = one (107 ∷ []) ∷ []; vertices = (97 ∷ []) ∷ (98 ∷ []) ∷ []; edges = edge 0 1 true (constant 0) (107 ∷ []) (signal 0) p ∷ [] }

-- the setting 1
constant-rejects : answers (numbers_of (G_constant)) (true ∷ false ∷ false ∷ []) ((49 ∷ 48 ∷ []) ∷ []) ≡ false ∷ []
unfolding numbers_with gates_of accepted judged gathered masked first_gate first_edge_latch signal_bits constant_bits bits_of edge_piece condemned_or happy_or formula gate inv literal_of variable_of is_inverted is_terminal output_of next_of nexts_of values_of front Rattle.netlist.specs.Meaning.gates_of gate_of bit_of lit_of signed
constant-rejects = refl

-- the setting 0
constant-accepts : answers (numbers_of (G_constant)) (false ∷ false ∷ false ∷ []) ((49 ∷ 48 ∷ []) ∷ []) ≡ true ∷ []
unfolding numbers_with gates_of accepted judged gathered masked first_gate first_edge_latch signal_bits constant_bits bits_of edge_piece condemned_or happy_or formula gate inv literal_of variable_of is_inverted is_terminal output_of next_of nexts_of values_of front Rattle.netlist.specs.Meaning.gates_of gate_of bit_of lit_of signed
constant-accepts = refl

constant-free : is_free (numbers_of G_constant) 0 ≡ true
unfolding is_free numbers_with signal_bits constant_bits bits_of literal_of
constant-free = refl

-- ---- wide names
-- `S a 3`, `S b 3`, `V v`, `E v v t a==b 1`: three gates for each bit, 26 to 42, bit 0 first; then the two joins, 44 and 46
abbrev G_wide : Graph
G_wide =
    record {
      mode = Unsaid;
      signals = wide (97 ∷ []) 3 ∷ wide (98 ∷ []) 3 ∷ [];
      constants = [];
      vertices = (118 ∷ []) ∷ [];
      edges = edge 0 0 true (alike (signals_from 0) (signals_from 3) 3) (97 ∷ 61 ∷ 61 ∷ 98 ∷ []) (truth true) (49 ∷ []) ∷ [];
    }

numbers_of-wide : numbers_of G_wide
    ≡ 28 ∷ 7 ∷ 2 ∷ 1 ∷ 19 ∷ 50 ∷ 0 ∷ 57 ∷ 0 ∷ 56
    ∷ 16 ∷ 3 ∷ 18 ∷ 3 ∷ 21 ∷ 3 ∷ 10 ∷ 4 ∷ 11 ∷ 5 ∷ 29 ∷ 27 ∷ 12 ∷ 6 ∷ 13 ∷ 7 ∷ 35 ∷ 33 ∷ 14 ∷ 8 ∷ 15 ∷ 9 ∷ 41 ∷ 39
    ∷ 37 ∷ 31 ∷ 44 ∷ 43 ∷ 46 ∷ 25 ∷ 48 ∷ 1 ∷ 48 ∷ 0 ∷ 46 ∷ 22 ∷ 55 ∷ 53 ∷ []
unfolding numbers_with gates_of accepted judged gathered masked first_gate first_edge_latch signal_bits constant_bits bits_of edge_piece condemned_or happy_or formula alike_of bit_literal gate inv literal_of variable_of is_inverted is_terminal
numbers_of-wide = refl

formula_of-wide : gate_formula G_wide ≡ 19
unfolding gate_formula formula_gates is_terminal
formula_of-wide = refl

-- `S a 2`, `K k 2`, `V v`, `E v v t a==k k[1]` on 100, 110, 101, 111: in each lane only the cycle in which a is the lane's setting is
-- asked, and rejected where bit 1 of it is 0
abbrev G_run : Graph
G_run =
    record {
      mode = Unsaid;
      signals = wide (97 ∷ []) 2 ∷ [];
      constants = wide (107 ∷ []) 2 ∷ [];
      vertices = (118 ∷ []) ∷ [];
      edges = edge 0 0 true (alike (signals_from 0) (constants_from 0) 2) (97 ∷ 61 ∷ 61 ∷ 107 ∷ []) (constant 1) (107 ∷ 91 ∷ 49 ∷ 93 ∷ []) ∷ [];
    }

abbrev in_lane : Bool → Bool → List Bool
in_lane k₀ k₁ =
    answers (numbers_of G_run) (k₀ ∷ k₁ ∷ false ∷ false ∷ []) ((49 ∷ 48 ∷ 48 ∷ []) ∷ (49 ∷ 49 ∷ 48 ∷ []) ∷ (49 ∷ 48 ∷ 49 ∷ []) ∷ (49 ∷ 49 ∷ 49 ∷ []) ∷ [])

setting_0 : in_lane false false ≡ false ∷ true ∷ true ∷ true ∷ []
unfolding numbers_with gates_of accepted judged gathered masked first_gate first_edge_latch signal_bits constant_bits bits_of edge_piece condemned_or happy_or formula alike_of bit_literal gate inv literal_of variable_of is_inverted is_terminal output_of next_of nexts_of values_of front Rattle.netlist.specs.Meaning.gates_of gate_of bit_of lit_of signed
setting_0 = refl

setting_1 : in_lane true false ≡ true ∷ false ∷ true ∷ true ∷ []
unfolding numbers_with gates_of accepted judged gathered masked first_gate first_edge_latch signal_bits constant_bits bits_of edge_piece condemned_or happy_or formula alike_of bit_literal gate inv literal_of variable_of is_inverted is_terminal output_of next_of nexts_of values_of front Rattle.netlist.specs.Meaning.gates_of gate_of bit_of lit_of signed
setting_1 = refl

setting_2 : in_lane false true ≡ true ∷ true ∷ true ∷ true ∷ []
unfolding numbers_with gates_of accepted judged gathered masked first_gate first_edge_latch signal_bits constant_bits bits_of edge_piece condemned_or happy_or formula alike_of bit_literal gate inv literal_of variable_of is_inverted is_terminal output_of next_of nexts_of values_of front Rattle.netlist.specs.Meaning.gates_of gate_of bit_of lit_of signed
setting_2 = refl
