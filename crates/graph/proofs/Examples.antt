-- Worked examples: texts and what they are. Byte 9 is a tab, 10 is LF. Assumes nothing.
use Rattle.std.specs.Prelude.{Ok, Err}
use mathlib.Core.Path.{◌≡◌, refl}
use Prim.Native.Nat.{ℕ, ◌+◌}
use mathlib.Core.Bool.{Bool, true, false}
use mathlib.Core.List.{List, [], ◌∷◌, ◌++◌, map}
use lib.ListN.{take, replicate}
use Rattle.text.specs.Quoted.{bytes}
use Rattle.text.specs.Numbers.{digits_of, digits}
use Rattle.formula.specs.Classes.{class_of, is_letter, is_word_class, strength_of, start_of, run, name_bytes, is_name}
use Rattle.formula.specs.Grammar.{and_then, name_of, closed, operand_of, expression_of, rest_of, whole, tree_of, depth_of}
use Rattle.assertion.specs.Graph.{Bytes, Graph, bits_of, signal_bits, constant_bits, signal, is_terminal}
use Rattle.assertion.specs.declared.Mode.{Mode}
use Rattle.assertion.specs.declared.Mode.TheVariants.{Unsaid, Terminal, Strong}
use Rattle.graph.specs.Pieces.{onto, split, up_to, end_at, piece_at, same, place_of, look_up, placed, look_up_name}
use Rattle.graph.specs.Records.{moded, number_to, width_of, sized, named, marked, edged, of_fields, record_of}
use Rattle.graph.specs.Reading.{
  fault_number,
  known,
  fits,
  joined,
  symbol,
  run_of,
  resolved,
  judged_tree,
  tree_expr,
  lower,
  mode_lines,
  add_mode,
  sized_name,
  add_signal,
  add_constant,
  add_vertex,
  edge_of,
  unless_faulty,
  judge_edge,
  add_edge,
  add,
  refused,
  accepted,
  finished,
  read_lines,
  graph_of,
}
use Rattle.graph.specs.Held.{line_start, line_of, field_start, field_length, field_at, symbol_word, symbols_of, name_places, arc_of, arcs_of, no_arc, filled, held_as, held_of, answer_of, read_of}
use Rattle.graph.specs.declared.Fault.TheVariants.{WrongShape, WrongOrder, NameRepeated, UnknownVertex, NotFormula, TooDeep, UnknownName}
use Rattle.graph.specs.declared.Cause.TheVariants.{FaultyLine, NoVertex}
use Rattle.graph.specs.declared.CheckedGraph.{CheckedGraph}

abbrev p : Bytes
p = 112 ∷ []

abbrev q : Bytes
q = 113 ∷ []

-- `S p`, `K p`, `V a`, `V b`
abbrev Sp : Bytes
Sp = 83 ∷ 9 ∷ 112 ∷ 10 ∷ []

abbrev Kp : Bytes
Kp = 75 ∷ 9 ∷ 112 ∷ 10 ∷ []

abbrev Va : Bytes
Va = 86 ∷ 9 ∷ 97 ∷ 10 ∷ []

abbrev Vb : Bytes
Vb = 86 ∷ 9 ∷ 98 ∷ 10 ∷ []

-- `E a b` with a mark and two formulas
abbrev Emark : ℕ → Bytes → Bytes → Bytes
Emark m x y = (69 ∷ 9 ∷ 97 ∷ 9 ∷ 98 ∷ 9 ∷ m ∷ 9 ∷ x) ++ ((9 ∷ y) ++ (10 ∷ []))

abbrev Eab : Bytes → Bytes → Bytes
Eab = Emark 116

-- `M` and a word
abbrev Mline : Bytes → Bytes
Mline w = (77 ∷ 9 ∷ w) ++ (10 ∷ [])

-- graph G with a mark for its edge: `S p`, `S q`, `V a`, `V b`, `E a b t p q`
abbrev text_with : ℕ → Bytes
text_with m = Sp ++ ((83 ∷ 9 ∷ 113 ∷ 10 ∷ []) ++ (Va ++ (Vb ++ Emark m p q)))

abbrev text_g : Bytes
text_g = text_with 116

-- G with a mode and a mark
abbrev graph_with : Mode → Bool → Graph
graph_with mode mark =
    record {
      mode = mode;
      signals = sized_name p 1 ∷ sized_name q 1 ∷ [];
      constants = [];
      vertices = (97 ∷ []) ∷ (98 ∷ []) ∷ [];
      edges = record { from = 0; to = 1; marked = mark; antecedent = signal 0; consequent = signal 1; antecedent_text = p; consequent_text = q } ∷ [];
    }

-- its arrays: the first name after n bytes, and whether its edge is terminal
abbrev held_with : Mode → ℕ → Bool → CheckedGraph
held_with mode n t =
    record {
      mode = mode;
      named = 2;
      signals = 2;
      constants = 0;
      vertices = 2;
      edges = 1;
      names = symbol_word (n + 2) 1 0 1 ∷ symbol_word (n + 6) 1 1 1 ∷ replicate 67 0;
      points = (n + 10) ∷ (n + 14) ∷ replicate 62 0;
      arcs = record { from = 0; to = 1; terminal = t; left = n + 24; lefts = 1; right = n + 26; rights = 1 } ∷ replicate 127 no_arc;
    }

-- whether the edges of a text are terminal
abbrev marks_of : Bytes → List Bool
marks_of text = elim (read_of text) [ Ok g ↦ map (λ a. a.terminal) (take g.edges g.arcs) | Err cause ↦ [] ]

record Examples : Type 0 where
  graph_g : graph_of text_g ≡ accepted (graph_with Unsaid true)
  held_g : read_of text_g ≡ Ok (held_with Unsaid 0 true)
  -- G with `-` for `t`: its edge is terminal, but not after `M terminal`
  unmarked : read_of (text_with 45) ≡ Ok (held_with Unsaid 0 true)
  terminal : read_of (Mline (bytes "terminal") ++ text_with 45) ≡ Ok (held_with Terminal 11 false)
  strong : read_of (Mline (bytes "strong") ++ text_with 45) ≡ Ok (held_with Strong 9 true)
  -- two edges, of which one is marked: `E a b - 1 0`, `E a b t 1 1`
  one-marked : marks_of (Va ++ (Vb ++ (Emark 45 (49 ∷ []) (48 ∷ []) ++ Emark 116 (49 ∷ []) (49 ∷ [])))) ≡ false ∷ true ∷ []
  one-marked-terminal : marks_of (Mline (bytes "terminal") ++ (Va ++ (Vb ++ (Emark 45 (49 ∷ []) (48 ∷ []) ++ Emark 116 (49 ∷ []) (49 ∷ []))))) ≡ false ∷ true ∷ []
  one-marked-strong : marks_of (Mline (bytes "strong") ++ (Va ++ (Vb ++ (Emark 45 (49 ∷ []) (48 ∷ []) ++ Emark 116 (49 ∷ []) (49 ∷ []))))) ≡ true ∷ true ∷ []
  none-marked : marks_of (Va ++ (Vb ++ (Emark 45 (49 ∷ []) (48 ∷ []) ++ Emark 45 (49 ∷ []) (49 ∷ [])))) ≡ true ∷ true ∷ []
  -- `M` is a name too: `S M`, `V M`, `E M M - M M`
  mode-name : marks_of (Mline (bytes "strong") ++ bytes "S\tM\nV\tM\nE\tM\tM\t-\tM\tM\n") ≡ true ∷ []
  -- an `M` line is no vertex
  mode-alone : graph_of (Mline (bytes "terminal")) ≡ refused NoVertex
  -- another word; no word; a third field; no LF; another letter
  mode_weak : graph_of (Mline (bytes "weak") ++ Va) ≡ refused (FaultyLine WrongShape 1)
  mode-capital : graph_of (Mline (bytes "Strong") ++ Va) ≡ refused (FaultyLine WrongShape 1)
  mode-bare : graph_of (77 ∷ 10 ∷ []) ≡ refused (FaultyLine WrongShape 1)
  mode-empty : graph_of (Mline [] ++ Va) ≡ refused (FaultyLine WrongShape 1)
  mode_third : graph_of (Mline (bytes "terminal\tx") ++ Va) ≡ refused (FaultyLine WrongShape 1)
  mode_no_lf : graph_of (bytes "M\tstrong") ≡ refused (FaultyLine WrongShape 1)
  mode_small : graph_of (bytes "m\tstrong\n" ++ Va) ≡ refused (FaultyLine WrongShape 1)
  -- an `M` line after a record, after another, and a wrong one
  mode_late : graph_of (Va ++ Mline (bytes "strong")) ≡ refused (FaultyLine WrongOrder 2)
  mode-later : graph_of (Va ++ (Vb ++ (Emark 45 (49 ∷ []) (48 ∷ []) ++ Mline (bytes "terminal")))) ≡ refused (FaultyLine WrongOrder 4)
  mode_between : graph_of (Sp ++ (Mline (bytes "terminal") ++ Va)) ≡ refused (FaultyLine WrongOrder 2)
  mode_twice : graph_of (Mline (bytes "terminal") ++ (Mline (bytes "terminal") ++ Va)) ≡ refused (FaultyLine WrongOrder 2)
  mode_then_weak : graph_of (Mline (bytes "terminal") ++ (Mline (bytes "weak") ++ Va)) ≡ refused (FaultyLine WrongShape 2)
  mode_late_weak : graph_of (Va ++ Mline (bytes "weak")) ≡ refused (FaultyLine WrongShape 2)
  -- the other records as before, lines counted with it
  mode-order : graph_of (Mline (bytes "terminal") ++ (Va ++ Sp)) ≡ refused (FaultyLine WrongOrder 3)
  mode-constant : graph_of (Mline (bytes "terminal") ++ (Kp ++ (Sp ++ Va))) ≡ refused (FaultyLine WrongOrder 3)
  mode_repeated : graph_of (Mline (bytes "strong") ++ (Va ++ Va)) ≡ refused (FaultyLine NameRepeated 3)
  mode-unknown : graph_of (Mline (bytes "strong") ++ Emark 116 (49 ∷ []) (49 ∷ [])) ≡ refused (FaultyLine UnknownVertex 2)
  no_line_lem : graph_of [] ≡ refused NoVertex
  no_vertex : graph_of Sp ≡ refused NoVertex
  -- a last line without LF
  no_lf : graph_of (Va ++ (86 ∷ 9 ∷ 98 ∷ [])) ≡ refused (FaultyLine WrongShape 2)
  -- a signal after a vertex
  out_of_order : graph_of (Va ++ Sp) ≡ refused (FaultyLine WrongOrder 2)
  -- a constant with a signal's name
  repeated : graph_of (Sp ++ Kp) ≡ refused (FaultyLine NameRepeated 2)
  -- an edge to no vertex, whatever its formulas
  unknown-vertex : graph_of (Va ++ Eab (40 ∷ []) p) ≡ refused (FaultyLine UnknownVertex 2)
  -- `10` is no formula, and that comes before the unknown name of the other
  not-formula : graph_of (Va ++ (Vb ++ Eab p (49 ∷ 48 ∷ []))) ≡ refused (FaultyLine NotFormula 3)
  -- 17 times `!`
  too_deep : graph_of (Va ++ (Vb ++ Eab (replicate 17 33 ++ (49 ∷ [])) p)) ≡ refused (FaultyLine TooDeep 3)
  unknown-name : graph_of (Va ++ (Vb ++ Eab (49 ∷ []) p)) ≡ refused (FaultyLine UnknownName 3)

examples : Examples
unfolding digits_of digits number_to width_of bits_of signal_bits constant_bits placed look_up_name fits run_of sized symbol_word symbols_of class_of is_letter is_word_class strength_of start_of run name_bytes is_name and_then name_of closed operand_of expression_of rest_of whole tree_of depth_of onto split up_to end_at piece_at same place_of look_up moded named marked edged of_fields record_of fault_number known joined symbol resolved judged_tree tree_expr lower mode_lines add_mode add_signal add_constant add_vertex edge_of unless_faulty judge_edge add_edge add finished read_lines graph_of line_start line_of field_start field_length field_at name_places arc_of arcs_of filled held_as held_of answer_of read_of is_terminal
examples =
    record {
      graph_g = refl;
      held_g = refl;
      unmarked = refl;
      terminal = refl;
      strong = refl;
      one-marked = refl;
      one-marked-terminal = refl;
      one-marked-strong = refl;
      none-marked = refl;
      mode-name = refl;
      mode-alone = refl;
      mode_weak = refl;
      mode-capital = refl;
      mode-bare = refl;
      mode-empty = refl;
      mode_third = refl;
      mode_no_lf = refl;
      mode_small = refl;
      mode_late = refl;
      mode-later = refl;
      mode_between = refl;
      mode_twice = refl;
      mode_then_weak = refl;
      mode_late_weak = refl;
      mode-order = refl;
      mode-constant = refl;
      mode_repeated = refl;
      mode-unknown = refl;
      no_line_lem = refl;
      no_vertex = refl;
      no_lf = refl;
      out_of_order = refl;
      repeated = refl;
      unknown-vertex = refl;
      not-formula = refl;
      too_deep = refl;
      unknown-name = refl;
    }
