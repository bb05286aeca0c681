-- Worked examples of names wider than one wire: widths, totals, bits and `==`. Assumes nothing.
use Rattle.std.specs.Prelude.{ℕ, Result, Ok, Err}
use Rattle.graph.specs.declared.CheckedGraph.{CheckedGraph}
use Rattle.graph.specs.declared.Cause.{Cause}
use mathlib.Core.Path.{◌≡◌, refl}
use mathlib.Core.List.{List, [], ◌∷◌, ◌++◌}
use lib.ListN.{take}
use Rattle.text.specs.Quoted.{bytes}
use Rattle.text.specs.Numbers.{digits_of, digits, is_digit, leading_digits, value_from}
use Rattle.formula.specs.Classes.{class_of, is_letter, is_word_class, strength_of, start_of, run, name_bytes, is_name}
use Rattle.formula.specs.Grammar.{and_then, is_index, index_of, right_of, name_of, closed, operand_of, expression_of, rest_of, whole, tree_of, depth_of}
use Rattle.assertion.specs.Graph.{Bytes, Expr, signal, constant, neg, same, alike, signals_from, constants_from, bits_of, signal_bits, constant_bits, is_terminal}
use Rattle.graph.specs.Pieces as pieces
use Rattle.graph.specs.Pieces.{onto, split, up_to, end_at, piece_at, place_of, look_up, placed, look_up_name}
use Rattle.graph.specs.Records.{moded, number_to, width_of, sized, named, marked, edged, of_fields, record_of}
use Rattle.graph.specs.Reading.{
  refusal_of,
  fault_number,
  known,
  fits,
  joined,
  symbol,
  run_of,
  resolved,
  judged_tree,
  tree_expr,
  lower,
  mode_lines,
  add_mode,
  add_signal,
  add_constant,
  add_vertex,
  edge_of,
  unless_faulty,
  judge_edge,
  add_edge,
  add,
  Outcome,
  refused,
  accepted,
  finished,
  read_lines,
  graph_of,
}
use Rattle.graph.specs.Held.{line_start, line_of, field_start, field_length, field_at, symbol_word, symbols_of, name_places, arc_of, arcs_of, filled, held_as, held_of, answer_of, read_of}
use Rattle.graph.specs.declared.Fault.TheVariants.{WrongShape, WrongOrder, TooMany, NameRepeated, NotFormula, TooDeep, UnknownName, WrongWidth}
use Rattle.graph.specs.declared.Cause.TheVariants.{FaultyLine}

-- `S a 4`, `S b 4`, `S c 2`, `S p`, `K k 4`, `K j 2`, `V v`
abbrev head : Bytes
head = bytes "S\ta\t4\nS\tb\t4\nS\tc\t2\nS\tp\nK\tk\t4\nK\tj\t2\nV\tv\n"

-- and an edge with these formulas
abbrev edge : Bytes → Bytes → Bytes
edge a c = head ++ (bytes "E\tv\tv\tt\t" ++ (a ++ (bytes "\t" ++ (c ++ bytes "\n"))))

-- the formulas of a text's first edge
pub record Both : Type 0 where
  left : Expr
  right : Expr

abbrev formulas : Outcome → List Both
formulas (refused cause) = []
formulas (accepted g) = elim g.edges [ [] ↦ [] | e ∷ es ↦ record { left = e.antecedent; right = e.consequent } ∷ [] ]

abbrev are : Expr → Expr → List Both
are l r = record { left = l; right = r } ∷ []

-- the first words of the names of a graph that is answered
abbrev first_names : ℕ → Result CheckedGraph Cause → List ℕ
first_names n (Ok g) = take n g.names
first_names n (Err cause) = []

record WideExamples : Type 0 where
  -- signal bits: a is 0 to 3, b 4 to 7, c 8 and 9, p 10; constant bits: k is 0 to 3, j 4 and 5
  lowest : formulas (graph_of (edge (bytes "a[0]") (bytes "k[3]"))) ≡ are (signal 0) (constant 3)
  highest : formulas (graph_of (edge (bytes "b[3]") (bytes "j[1]"))) ≡ are (signal 7) (constant 5)
  one_wire : formulas (graph_of (edge (bytes "p[0]") (bytes "p"))) ≡ are (signal 10) (signal 10)
  compared : formulas (graph_of (edge (bytes "!a==b") (bytes "c==j"))) ≡ are (neg (alike (signals_from 0) (signals_from 4) 4)) (alike (signals_from 8) (constants_from 4) 2)
  looser : formulas (graph_of (edge (bytes "a==b=p") (bytes "p=k==a"))) ≡ are (same (alike (signals_from 0) (signals_from 4) 4) (signal 10)) (same (signal 10) (alike (constants_from 0) (signals_from 0) 4))
  -- where the names stand: place of the text, length, first bit, width
  held : first_names 7 (read_of (edge (bytes "1") (bytes "1"))) ≡ symbol_word 2 1 0 4 ∷ symbol_word 8 1 4 4 ∷ symbol_word 14 1 8 2 ∷ symbol_word 20 1 10 1 ∷ symbol_word 24 1 11 4 ∷ symbol_word 30 1 15 2 ∷ 0 ∷ []
  -- 19, after 9 and 7 and 8, over both formulas
  nineteen : refusal_of (FaultyLine WrongWidth 8) ≡ record { number = 19; line = 8 }
  unknown-after : graph_of (edge (bytes "a[4]&z") (bytes "1")) ≡ refused (FaultyLine UnknownName 8)
  unknown-before : graph_of (edge (bytes "z") (bytes "a")) ≡ refused (FaultyLine UnknownName 8)
  beyond : graph_of (edge (bytes "a[4]") (bytes "1")) ≡ refused (FaultyLine WrongWidth 8)
  far_beyond : graph_of (edge (bytes "a[99999999999999999999]") (bytes "1")) ≡ refused (FaultyLine WrongWidth 8)
  one_beyond : graph_of (edge (bytes "p[1]") (bytes "1")) ≡ refused (FaultyLine WrongWidth 8)
  bare : graph_of (edge (bytes "a") (bytes "1")) ≡ refused (FaultyLine WrongWidth 8)
  bare-same : graph_of (edge (bytes "a=b") (bytes "1")) ≡ refused (FaultyLine WrongWidth 8)
  unequal : graph_of (edge (bytes "a==c") (bytes "1")) ≡ refused (FaultyLine WrongWidth 8)
  unknown-first : graph_of (edge (bytes "a==c") (bytes "z")) ≡ refused (FaultyLine UnknownName 8)
  unknown-bit : graph_of (edge (bytes "z[9]") (bytes "1")) ≡ refused (FaultyLine UnknownName 8)
  form_first : graph_of (edge (bytes "a") (bytes "(")) ≡ refused (FaultyLine NotFormula 8)
  deep-first : graph_of (edge (bytes "!!!!!!!!!!!!!!!!!p") (bytes "a")) ≡ refused (FaultyLine TooDeep 8)
  -- widths
  seventeen : graph_of (bytes "S\tx\t17\nV\tv\n") ≡ refused (FaultyLine WrongShape 1)
  zero-wide : graph_of (bytes "S\tx\t0\nV\tv\n") ≡ refused (FaultyLine WrongShape 1)
  leading_zero : graph_of (bytes "S\tx\t01\nV\tv\n") ≡ refused (FaultyLine WrongShape 1)
  no_width : graph_of (bytes "S\tx\t\nV\tv\n") ≡ refused (FaultyLine WrongShape 1)
  wrapped : graph_of (bytes "S\tx\t257\nV\tv\n") ≡ refused (FaultyLine WrongShape 1)
  four_fields : graph_of (bytes "S\tx\t1\t1\nV\tv\n") ≡ refused (FaultyLine WrongShape 1)
  wide-vertex : graph_of (bytes "V\tv\t1\n") ≡ refused (FaultyLine WrongShape 1)
  constant_17 : graph_of (bytes "K\tx\t17\nV\tv\n") ≡ refused (FaultyLine WrongShape 1)
  -- totals by bits, before a repeated name
  constant_7 : graph_of (bytes "K\tx\t7\nV\tv\n") ≡ refused (FaultyLine TooMany 1)
  seventh : graph_of (bytes "K\tx\t6\nK\ty\nV\tv\n") ≡ refused (FaultyLine TooMany 2)
  bits_64 : graph_of (bytes "S\tx\t16\nS\ty\t16\nS\tz\t16\nS\tw\t16\nV\tv\n") ≡ refused (FaultyLine TooMany 4)
  many_first : graph_of (bytes "S\tx\t16\nS\ty\t16\nS\tz\t16\nS\tx\t16\nV\tv\n") ≡ refused (FaultyLine TooMany 4)
  repeated : graph_of (bytes "S\tx\t16\nS\ty\t16\nS\tz\t16\nS\tx\t15\nV\tv\n") ≡ refused (FaultyLine NameRepeated 4)
  repeated_constant : graph_of (bytes "S\tx\t4\nK\tx\t2\nV\tv\n") ≡ refused (FaultyLine NameRepeated 2)
  repeated_wider : graph_of (bytes "K\tx\t2\nK\tx\t3\nV\tv\n") ≡ refused (FaultyLine NameRepeated 2)
  late_shape : graph_of (bytes "K\tx\t2\nS\ty\t17\nV\tv\n") ≡ refused (FaultyLine WrongShape 2)
  late : graph_of (bytes "K\tx\t2\nS\ty\t16\nV\tv\n") ≡ refused (FaultyLine WrongOrder 2)

wide_examples : WideExamples
unfolding digits_of digits is_digit leading_digits value_from class_of is_letter is_word_class strength_of start_of run name_bytes is_name and_then is_index index_of right_of name_of closed operand_of expression_of rest_of whole tree_of depth_of bits_of signal_bits constant_bits is_terminal onto split up_to end_at piece_at pieces.same place_of look_up placed look_up_name moded number_to width_of sized named marked edged of_fields record_of refusal_of fault_number known fits joined symbol run_of resolved judged_tree tree_expr lower mode_lines add_mode add_signal add_constant add_vertex edge_of unless_faulty judge_edge add_edge add finished read_lines graph_of line_start line_of field_start field_length field_at symbol_word symbols_of name_places arc_of arcs_of filled held_as held_of answer_of read_of
wide_examples =
    record {
      lowest = refl;
      highest = refl;
      one_wire = refl;
      compared = refl;
      looser = refl;
      held = refl;
      nineteen = refl;
      unknown-after = refl;
      unknown-before = refl;
      beyond = refl;
      far_beyond = refl;
      one_beyond = refl;
      bare = refl;
      bare-same = refl;
      unequal = refl;
      unknown-first = refl;
      unknown-bit = refl;
      form_first = refl;
      deep-first = refl;
      seventeen = refl;
      zero-wide = refl;
      leading_zero = refl;
      no_width = refl;
      wrapped = refl;
      four_fields = refl;
      wide-vertex = refl;
      constant_17 = refl;
      constant_7 = refl;
      seventh = refl;
      bits_64 = refl;
      many_first = refl;
      repeated = refl;
      repeated_constant = refl;
      repeated_wider = refl;
      late_shape = refl;
      late = refl;
    }
