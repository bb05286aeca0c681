-- The request's cases, worked. Assumes nothing.
use Prim.Native.Nat.{ℕ}
use mathlib.Core.Path.{◌≡◌, refl}
use mathlib.Core.Bool.{Bool, true, false}
use mathlib.Core.List.{List, [], ◌∷◌, map}
use lib.ListN.{length}
use Rattle.netlist.specs.Literals.{literal_of, variable_of, is_inverted}
use Rattle.text.specs.Quoted.{bytes}
use Rattle.text.specs.Numbers.{digits_of, digits, is_digit, leading_digits, value_from}
use Rattle.formula.specs.Classes.{class_of, is_letter, is_word_class, strength_of, start_of, run, name_bytes, is_name}
use Rattle.formula.specs.Grammar.{and_then, is_index, index_of, right_of, name_of, closed, operand_of, expression_of, rest_of, whole, tree_of, depth_of}
use Rattle.assertion.specs.Graph.{Bytes, truth, signal, constant, neg, Edge, Graph, bits_of, signal_bits, constant_bits, is_terminal}
use Rattle.assertion.specs.declared.Mode.TheVariants.{Unsaid, Terminal}
use Rattle.graph.specs.Pieces.{onto, split, same, place_of, look_up, placed, look_up_name}
use Rattle.graph.specs.Records.{moded, number_to, width_of, sized, named, marked, edged, of_fields, record_of}
use Rattle.graph.specs.Reading.{known, fits, symbol, run_of, resolved, judged_tree, tree_expr, lower, mode_lines, add_mode, add_signal, add_constant, add_vertex, edge_of, unless_faulty, judge_edge, add_edge, add, finished, read_lines, graph_of}
use Rattle.circuit.specs.Gates.{inv, gate}
use Rattle.circuit.specs.Build.{first_edge_latch, first_gate, formula, happy_or, condemned_or, edge_piece, masked, gathered, judged, accepted, gates_of}
use Rattle.dearest_text.specs.Dearest.{dearest_graph, vertex_line, loop_line, dearest_text}
use Rattle.dearest_text.specs.Claims.{Operatorless}
use Rattle.dearest_text.specs.Claims.NoOperator.{is-truth, is_signal, is-constant, is-neg}

-- ---- the text: one edge, 16 bytes; two, 28
text_of_one : dearest_text 1 ≡ bytes "V\ta\nE\ta\ta\tt\t1\t1\n"
unfolding dearest_text vertex_line loop_line
text_of_one = refl

text_of_two : dearest_text 2 ≡ bytes "V\ta\nE\ta\ta\tt\t1\t1\nE\ta\ta\tt\t1\t1\n"
unfolding dearest_text vertex_line loop_line
text_of_two = refl

sizes : map (λ e. length (dearest_text e)) (1 ∷ 2 ∷ 3 ∷ 128 ∷ []) ≡ 16 ∷ 28 ∷ 40 ∷ 1540 ∷ []
unfolding dearest_text vertex_line loop_line
sizes = refl

-- ---- what it costs
costs : map (λ e. length (gates_of (dearest_graph e))) (1 ∷ 2 ∷ 3 ∷ []) ≡ 8 ∷ 18 ∷ 28 ∷ []
unfolding dearest_graph gates_of accepted judged gathered masked first_gate first_edge_latch edge_piece condemned_or happy_or formula gate inv literal_of variable_of is_inverted is_terminal bits_of signal_bits constant_bits
costs = refl

-- ---- other graphs without operators, on vertices `a` and `b`
abbrev edge : ℕ → Bool → Edge
edge to mark =
    record { from = 0; to = to; marked = mark; antecedent = truth true; consequent = truth true; antecedent_text = bytes "1"; consequent_text = bytes "1" }

-- a self-loop with labels `!1` / `!!0`
abbrev inverted : Bool → Edge
inverted mark =
    record {
      from = 0;
      to = 0;
      marked = mark;
      antecedent = neg (truth true);
      consequent = neg (neg (truth false));
      antecedent_text = bytes "!1";
      consequent_text = bytes "!!0";
    }

abbrev cost_of : List Bytes → List Edge → ℕ
cost_of vertices edges = length (gates_of (record { mode = Unsaid; signals = []; constants = []; vertices = vertices; edges = edges }))

-- of one edge, at most 8: an unmarked self-loop; `a b`. Of two, at most 18: `a a` and `a b`; two self-loops with `!`, one of
-- them unmarked
costs_of_others :
    cost_of (bytes "a" ∷ []) (edge 0 false ∷ [])
    ∷ cost_of (bytes "a" ∷ bytes "b" ∷ []) (edge 1 true ∷ [])
    ∷ cost_of (bytes "a" ∷ bytes "b" ∷ []) (edge 0 true ∷ edge 1 true ∷ [])
    ∷ cost_of (bytes "a" ∷ []) (inverted true ∷ inverted false ∷ [])
    ∷ []
    ≡ 8 ∷ 7 ∷ 16 ∷ 17 ∷ []
unfolding gates_of accepted judged gathered masked first_gate first_edge_latch edge_piece condemned_or happy_or formula gate inv literal_of variable_of is_inverted is_terminal bits_of signal_bits constant_bits
costs_of_others = refl

-- ---- a text with every form that a formula without operators may have, under a mode, with widths and a constant
abbrev text : Bytes
text = bytes "M\tterminal\nS\ta\t2\nS\tp\nK\tk\nV\tv\nV\tw\nE\tv\tw\t-\t!(a[1])\tk\nE\tw\tw\tt\t((p))\t!!0\n"

abbrev other : Graph
other =
    record {
      mode = Terminal;
      signals = record { name = bytes "a"; width = 2 } ∷ record { name = bytes "p"; width = 1 } ∷ [];
      constants = record { name = bytes "k"; width = 1 } ∷ [];
      vertices = bytes "v" ∷ bytes "w" ∷ [];
      edges =
          record {
            from = 0;
            to = 1;
            marked = false;
            antecedent = neg (signal 1);
            consequent = constant 0;
            antecedent_text = bytes "!(a[1])";
            consequent_text = bytes "k";
          }
          ∷ record {
            from = 1;
            to = 1;
            marked = true;
            antecedent = signal 2;
            consequent = neg (neg (truth false));
            antecedent_text = bytes "((p))";
            consequent_text = bytes "!!0";
          }
          ∷ [];
    }

operatorless : Operatorless 2 text other
unfolding digits_of digits is_digit leading_digits value_from class_of is_letter is_word_class strength_of start_of run name_bytes is_name and_then is_index index_of right_of name_of closed operand_of expression_of rest_of whole tree_of depth_of bits_of signal_bits constant_bits onto split same place_of look_up placed look_up_name moded number_to width_of sized named marked edged of_fields record_of known fits symbol run_of resolved judged_tree tree_expr lower mode_lines add_mode add_signal add_constant add_vertex edge_of unless_faulty judge_edge add_edge add finished read_lines graph_of
operatorless =
    record {
      read = refl;
      count = refl;
      no_operators = (is-neg (is_signal 1), is-constant 0, (is_signal 2, is-neg (is-neg (is-truth false)), tt));
    }
