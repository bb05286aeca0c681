-- Worked examples of monitors with the second output, checked, and beside them without; a byte 48 is `0`, 49 is `1`. Assumes nothing.
use Prim.Native.Nat.{ℕ, zero, suc, ◌+◌, ◌*◌}
use mathlib.Core.Path.{◌≡◌, refl}
use mathlib.Core.Bool.{Bool, true, false}
use mathlib.Core.List.{List, [], ◌∷◌, map}
use lib.ListN.{length, drop}
use Rattle.netlist.specs.Layout.{maximum, operands_at}
use Rattle.netlist.specs.Literals.{literal_of, variable_of, is_inverted}
use Rattle.netlist.specs.Meaning.{bools, signed, lit_of, bit_of, gate_of, front, values_of, nexts_of, next_of, output_of}
use Rattle.assertion.specs.declared.Mode.{Mode}
use Rattle.assertion.specs.declared.Mode.TheVariants.{Unsaid, Terminal}
use Rattle.assertion.specs.Graph.{Expr, signal, constant, truth, Edge, Name, Graph, bits_of, signal_bits, constant_bits, Cycle, is_terminal, operators}
use Rattle.circuit.specs.Gates.{inv, gate}
use Rattle.circuit.specs.Build.{first_edge_latch, first_gate, formula, happy_or, condemned_or, edge_piece, masked, gathered, judged, accepted, gates_of}
use Rattle.circuit.specs.Checked.{checked_piece, gates_with, outputs_with}
use Rattle.circuit.specs.Numbers.{numbers_with}
use Rattle.circuit.specs.Count.{formula_gates, all_operators, gate_formula, gate_formula_with}

-- names of one bit: `p`, `q`, `k`
abbrev p : Name
p = record { name = 112 ∷ []; width = 1 }

abbrev q : Name
q = record { name = 113 ∷ []; width = 1 }

abbrev k : Name
k = record { name = 107 ∷ []; width = 1 }

abbrev edge : ℕ → ℕ → Bool → Expr → Expr → Edge
edge f t m a c = record { from = f; to = t; marked = m; antecedent = a; consequent = c; antecedent_text = []; consequent_text = [] }

-- `S p`, `S q`, `V a`, `V b` and these edges
abbrev graph : List Edge → Graph
graph es = record { mode = Unsaid; signals = p ∷ q ∷ []; constants = []; vertices = (97 ∷ []) ∷ (98 ∷ []) ∷ []; edges = es }

-- `V a` and these edges, under a mode and without
abbrev loops_under : Mode → List Edge → Graph
loops_under m es = record { mode = m; signals = []; constants = []; vertices = (97 ∷ []) ∷ []; edges = es }

abbrev loops : List Edge → Graph
loops es = loops_under Unsaid es

-- `E a b t p q`, `E b b t p 1`; `E a a t 1 1`, `E a a - 1 1`
abbrev first : Edge
first = edge 0 1 true (signal 0) (signal 1)

abbrev second : Edge
second = edge 1 1 true (signal 0) (truth true)

abbrev marked : Edge
marked = edge 0 0 true (truth true) (truth true)

abbrev unmarked : Edge
unmarked = edge 0 0 false (truth true) (truth true)

abbrev copies : ℕ → Edge → List Edge
copies zero e = []
copies (suc n) e = e ∷ copies n e

-- the operands of the gates from gate i on
abbrev from : ℕ → Graph → List ℕ
from i g = let net = numbers_with true g in drop (operands_at net i) net

-- ---- G, without and with: the last gate is NOT 25 AND NOT 18, and its inverse 27 the second output
G_without : numbers_with false (graph (first ∷ [])) ≡ 12 ∷ 3 ∷ 2 ∷ 1 ∷ 7 ∷ 18 ∷ 0 ∷ 25 ∷ 0 ∷ 24 ∷ 8 ∷ 3 ∷ 10 ∷ 3 ∷ 4 ∷ 2 ∷ 16 ∷ 6 ∷ 16 ∷ 7 ∷ 4 ∷ 0 ∷ 23 ∷ 21 ∷ []
unfolding numbers_with gates_of accepted judged gathered masked first_gate first_edge_latch signal_bits constant_bits bits_of edge_piece condemned_or happy_or formula gate inv literal_of variable_of is_inverted is_terminal checked_piece
G_without = refl

G_with : numbers_with true (graph (first ∷ [])) ≡ 13 ∷ 3 ∷ 2 ∷ 2 ∷ 8 ∷ 18 ∷ 0 ∷ 25 ∷ 0 ∷ 24 ∷ 27 ∷ 8 ∷ 3 ∷ 10 ∷ 3 ∷ 4 ∷ 2 ∷ 16 ∷ 6 ∷ 16 ∷ 7 ∷ 4 ∷ 0 ∷ 23 ∷ 21 ∷ 24 ∷ 19 ∷ []
unfolding numbers_with gates_of accepted judged gathered masked first_gate first_edge_latch signal_bits constant_bits bits_of edge_piece condemned_or happy_or formula gate inv literal_of variable_of is_inverted is_terminal checked_piece
G_with = refl

-- ---- `V a`: no edge, and the second output is literal 0
none_with : numbers_with true (loops []) ≡ 1 ∷ 1 ∷ 0 ∷ 2 ∷ 0 ∷ 1 ∷ 0 ∷ []
unfolding numbers_with gates_of accepted judged gathered masked first_gate first_edge_latch signal_bits constant_bits bits_of edge_piece condemned_or happy_or formula gate inv literal_of variable_of is_inverted is_terminal checked_piece
none_with = refl

-- ---- `M terminal`, `E a a - 1 1`: no terminal edge, and no gate more
unmarked-outputs : outputs_with true (loops_under Terminal (unmarked ∷ [])) ≡ 1 ∷ 0 ∷ []
unfolding gates_of accepted judged gathered masked first_gate first_edge_latch signal_bits constant_bits bits_of edge_piece condemned_or happy_or formula gate inv literal_of variable_of is_inverted is_terminal checked_piece
unmarked-outputs = refl

unmarked-gates : map (λ (checked : Bool). length (gates_with checked (loops_under Terminal (unmarked ∷ [])))) (false ∷ true ∷ []) ≡ 8 ∷ 8 ∷ []
unfolding gates_of accepted judged gathered masked first_gate first_edge_latch signal_bits constant_bits bits_of edge_piece condemned_or happy_or formula gate inv literal_of variable_of is_inverted is_terminal checked_piece
unmarked-gates = refl

-- ---- G and `E b b t p 1`: 17 gates and 3, as the formula says; both alive, then the join
two-gates : length (gates_with true (graph (first ∷ second ∷ []))) ≡ 20
unfolding gates_of accepted judged gathered masked first_gate first_edge_latch signal_bits constant_bits bits_of edge_piece condemned_or happy_or formula gate inv literal_of variable_of is_inverted is_terminal checked_piece
two-gates = refl

two-formula : gate_formula_with true (graph (first ∷ second ∷ [])) ≡ 20
unfolding gate_formula_with gate_formula formula_gates is_terminal
two-formula = refl

two-outputs : outputs_with true (graph (first ∷ second ∷ [])) ≡ 48 ∷ 55 ∷ []
unfolding gates_of accepted judged gathered masked first_gate first_edge_latch signal_bits constant_bits bits_of edge_piece condemned_or happy_or formula gate inv literal_of variable_of is_inverted is_terminal checked_piece
two-outputs = refl

two-last : from 17 (graph (first ∷ second ∷ [])) ≡ 36 ∷ 31 ∷ 46 ∷ 41 ∷ 52 ∷ 50 ∷ []
unfolding numbers_with gates_of accepted judged gathered masked first_gate first_edge_latch signal_bits constant_bits bits_of edge_piece condemned_or happy_or formula gate inv literal_of variable_of is_inverted is_terminal checked_piece
two-last = refl

-- ---- three `E a a t 1 1`: gates without and with, and the bound; all three alive, then the two joins in edge order
three_gates : map (λ (checked : Bool). length (gates_with checked (loops (copies 3 marked)))) (false ∷ true ∷ []) ≡ 28 ∷ 33 ∷ []
unfolding gates_of accepted judged gathered masked first_gate first_edge_latch signal_bits constant_bits bits_of edge_piece condemned_or happy_or formula gate inv literal_of variable_of is_inverted is_terminal checked_piece
three_gates = refl

three_bound : 12 * length (loops (copies 3 marked)).edges + 3 * all_operators (loops (copies 3 marked)).edges ≡ 36
unfolding operators
three_bound = refl

three_maximum : maximum (numbers_with true (loops (copies 3 marked))) ≡ 40
unfolding numbers_with gates_of accepted judged gathered masked first_gate first_edge_latch signal_bits constant_bits bits_of edge_piece condemned_or happy_or formula gate inv literal_of variable_of is_inverted is_terminal checked_piece
three_maximum = refl

three_outputs : outputs_with true (loops (copies 3 marked)) ≡ 70 ∷ 81 ∷ []
unfolding gates_of accepted judged gathered masked first_gate first_edge_latch signal_bits constant_bits bits_of edge_piece condemned_or happy_or formula gate inv literal_of variable_of is_inverted is_terminal checked_piece
three_outputs = refl

three_last : from 28 (loops (copies 3 marked)) ≡ 46 ∷ 41 ∷ 56 ∷ 51 ∷ 66 ∷ 61 ∷ 74 ∷ 72 ∷ 78 ∷ 76 ∷ []
unfolding numbers_with gates_of accepted judged gathered masked first_gate first_edge_latch signal_bits constant_bits bits_of edge_piece condemned_or happy_or formula gate inv literal_of variable_of is_inverted is_terminal checked_piece
three_last = refl

-- ---- 128 of them: gates, as the formula says, and the bound
most-gates : length (gates_with true (loops (copies 128 marked))) ≡ 1533
unfolding gates_of accepted judged gathered masked first_gate first_edge_latch signal_bits constant_bits bits_of edge_piece condemned_or happy_or formula gate inv literal_of variable_of is_inverted is_terminal checked_piece
most-gates = refl

most-formula : gate_formula_with true (loops (copies 128 marked)) ≡ 1533
unfolding gate_formula_with gate_formula formula_gates is_terminal
most-formula = refl

most-bound : 12 * length (loops (copies 128 marked)).edges + 3 * all_operators (loops (copies 128 marked)).edges ≡ 1536
unfolding operators
most-bound = refl

-- ---- marks t, -, t: three gates more, alive of the first edge and of the third, and the join
mixed_last : from 27 (loops (marked ∷ unmarked ∷ marked ∷ [])) ≡ 46 ∷ 41 ∷ 66 ∷ 61 ∷ 72 ∷ 70 ∷ []
unfolding numbers_with gates_of accepted judged gathered masked first_gate first_edge_latch signal_bits constant_bits bits_of edge_piece condemned_or happy_or formula gate inv literal_of variable_of is_inverted is_terminal checked_piece
mixed_last = refl

mixed_gates : map (λ (checked : Bool). length (gates_with checked (loops (marked ∷ unmarked ∷ marked ∷ [])))) (false ∷ true ∷ []) ≡ 27 ∷ 30 ∷ []
unfolding gates_of accepted judged gathered masked first_gate first_edge_latch signal_bits constant_bits bits_of edge_piece condemned_or happy_or formula gate inv literal_of variable_of is_inverted is_terminal checked_piece
mixed_gates = refl

-- ---- what the second output answers in one lane, cycle for cycle
abbrev seconds : List ℕ → List Bool → List Cycle → List Bool
seconds net latches [] = []
seconds net latches (c ∷ cs) =
    output_of bools net 1 (values_of bools net (map (bit_of bools) c) latches)
    ∷ seconds net (next_of bools net (values_of bools net (map (bit_of bools) c) latches)) cs

-- G on 110, 111, 010: at stake in the first two
G_seconds : seconds (numbers_with true (graph (first ∷ []))) (false ∷ false ∷ []) ((49 ∷ 49 ∷ 48 ∷ []) ∷ (49 ∷ 49 ∷ 49 ∷ []) ∷ (48 ∷ 49 ∷ 48 ∷ []) ∷ []) ≡ true ∷ true ∷ false ∷ []
unfolding numbers_with gates_of accepted judged gathered masked first_gate first_edge_latch signal_bits constant_bits bits_of edge_piece condemned_or happy_or formula gate inv literal_of variable_of is_inverted is_terminal checked_piece output_of next_of nexts_of values_of front Rattle.netlist.specs.Meaning.gates_of gate_of bit_of lit_of signed
G_seconds = refl

-- G without init, 010
no_init : seconds (numbers_with true (graph (first ∷ []))) (false ∷ false ∷ []) ((48 ∷ 49 ∷ 48 ∷ []) ∷ []) ≡ false ∷ []
unfolding numbers_with gates_of accepted judged gathered masked first_gate first_edge_latch signal_bits constant_bits bits_of edge_piece condemned_or happy_or formula gate inv literal_of variable_of is_inverted is_terminal checked_piece output_of next_of nexts_of values_of front Rattle.netlist.specs.Meaning.gates_of gate_of bit_of lit_of signed
no_init = refl

-- `S p`, `K k`, `E a a t k p` on 11 and 10: under the setting 1 alone
abbrev G_constant : Graph
G_constant = record { mode = Unsaid; signals = p ∷ []; constants = k ∷ []; vertices = (97 ∷ []) ∷ []; edges = edge 0 0 true (constant 0) (signal 0) ∷ [] }

constant-seconds : map (λ (setting : Bool). seconds (numbers_with true G_constant) (setting ∷ false ∷ false ∷ []) ((49 ∷ 49 ∷ []) ∷ (49 ∷ 48 ∷ []) ∷ [])) (true ∷ false ∷ []) ≡ (true ∷ true ∷ []) ∷ (false ∷ false ∷ []) ∷ []
unfolding numbers_with gates_of accepted judged gathered masked first_gate first_edge_latch signal_bits constant_bits bits_of edge_piece condemned_or happy_or formula gate inv literal_of variable_of is_inverted is_terminal checked_piece output_of next_of nexts_of values_of front Rattle.netlist.specs.Meaning.gates_of gate_of bit_of lit_of signed
constant-seconds = refl

-- `E a b - 1 1`, `E b b t 1 1` on 100, 000: the first cycle ends on no terminal edge
ends_terminal_lem : seconds (numbers_with true (graph (edge 0 1 false (truth true) (truth true) ∷ edge 1 1 true (truth true) (truth true) ∷ []))) (false ∷ false ∷ false ∷ false ∷ []) ((49 ∷ 48 ∷ 48 ∷ []) ∷ (48 ∷ 48 ∷ 48 ∷ []) ∷ []) ≡ false ∷ true ∷ []
unfolding numbers_with gates_of accepted judged gathered masked first_gate first_edge_latch signal_bits constant_bits bits_of edge_piece condemned_or happy_or formula gate inv literal_of variable_of is_inverted is_terminal checked_piece output_of next_of nexts_of values_of front Rattle.netlist.specs.Meaning.gates_of gate_of bit_of lit_of signed
ends_terminal_lem = refl

-- `E a a t 1 p` on 100, 010: a condemned path is alive
condemned-alive : seconds (numbers_with true (graph (edge 0 0 true (truth true) (signal 0) ∷ []))) (false ∷ false ∷ []) ((49 ∷ 48 ∷ 48 ∷ []) ∷ (48 ∷ 49 ∷ 48 ∷ []) ∷ []) ≡ true ∷ true ∷ []
unfolding numbers_with gates_of accepted judged gathered masked first_gate first_edge_latch signal_bits constant_bits bits_of edge_piece condemned_or happy_or formula gate inv literal_of variable_of is_inverted is_terminal checked_piece output_of next_of nexts_of values_of front Rattle.netlist.specs.Meaning.gates_of gate_of bit_of lit_of signed
condemned-alive = refl
