-- The claim refuses the prose's label: of the text for one stroke with `enq&!deq` for `enq` at count 0, where enq and deq
-- together then find no edge, it does not hold. Assumes nothing.
use mathlib.Core.Path.{◌≡◌, refl, sym, ap, subst, ◌∙◌}
use mathlib.Core.Bool.{true, false}
use mathlib.Core.List.{List, [], ◌∷◌}
use lib.Dec.{T}
use Rattle.text.specs.Quoted.{bytes}
use Rattle.formula.specs.Classes.{class_of, is_letter, is_word_class, strength_of, start_of, run, name_bytes, is_name}
use Rattle.formula.specs.Grammar.{and_then, name_of, closed, operand_of, expression_of, rest_of, whole, tree_of, depth_of}
use Rattle.assertion.specs.Graph.{Bytes, Graph, Cycle, bits_of, signal_bits, constant_bits, is_terminal, input, is_init, holds}
use Rattle.assertion.specs.declared.Mode.TheVariants.{Unsaid}
use Rattle.assertion.specs.Paths.{is_rejected, rejected_under, rejects_along}
use Rattle.assertion.proofs.PathLaws.{paths_mean}
use Rattle.graph.specs.Pieces.{onto, split, up_to, end_at, piece_at, same, place_of, look_up, placed, look_up_name}
use Rattle.graph.specs.Records.{moded, number_to, width_of, sized, named, marked, edged, of_fields, record_of}
use Rattle.graph.specs.Reading.{fault_number, known, fits, joined, symbol, run_of, resolved, judged_tree, tree_expr, lower, mode_lines, add_mode, add_signal, add_constant, add_vertex, edge_of, unless_faulty, judge_edge, add_edge, add, accepted, finished, read_lines, graph_of}
use Rattle.buffer_text.specs.Claims.{StrokeBuffer, BufferRejected}
use Rattle.buffer_text.proofs.Graph.{reset, enq, deq, empty, full, off, both, none_flags, all_flags, counting, start, wire}

abbrev prose : Bytes
prose = bytes "S\treset\nS\tenq\nS\tdeq\nS\tempty\nS\tfull\nV\ts\nV\tn0\nV\tn1\nE\ts\tn0\tt\treset\t1\nE\tn0\tn1\tt\tenq&!deq\tempty&!full\nE\tn0\tn0\tt\t!enq\tempty&!full\nE\tn1\tn0\tt\tdeq\t!empty&full\nE\tn1\tn1\tt\t!deq\t!empty&full\n"

abbrev prose_graph : Graph
prose_graph =
    record {
      mode = Unsaid;
      signals = wire reset ∷ wire enq ∷ wire deq ∷ wire empty ∷ wire full ∷ [];
      constants = [];
      vertices = bytes "s" ∷ bytes "n0" ∷ bytes "n1" ∷ [];
      edges = start ∷ counting 0 1 (both enq (off deq)) none_flags ∷ counting 0 0 (off enq) none_flags ∷ counting 1 0 deq all_flags ∷ counting 1 1 (off deq) all_flags ∷ [];
    }

is_read : graph_of prose ≡ accepted prose_graph
unfolding graph_of onto split up_to end_at piece_at same place_of look_up placed look_up_name moded number_to width_of sized named marked edged of_fields record_of fault_number known fits joined symbol run_of resolved judged_tree tree_expr lower mode_lines add_mode add_signal add_constant add_vertex edge_of unless_faulty judge_edge add_edge add finished read_lines class_of is_letter is_word_class strength_of start_of run name_bytes is_name and_then name_of closed operand_of expression_of rest_of whole tree_of depth_of bits_of signal_bits constant_bits
is_read = refl

-- in the second cycle no edge could be taken, and by the listing the flags are wrong in the third
abbrev cs : List Cycle
cs = bytes "110000" ∷ bytes "001110" ∷ bytes "000000" ∷ []

not-rejected : is_rejected prose_graph cs ≡ false
unfolding is_rejected rejected_under rejects_along constant_bits bits_of is_terminal holds is_init input
not-rejected = refl

claimed : BufferRejected 1 cs
unfolding input is_init
claimed =
    record {
      init = record { before = []; first = bytes "110000"; later = bytes "001110" ∷ bytes "000000" ∷ []; whole = refl; starts_init = refl; latest = refl; since = refl };
      was_reset = refl;
      moves = refl;
      wrong = refl;
    }

refuses : StrokeBuffer 1 prose → ⊥
refuses s =
    let e : accepted prose_graph ≡ accepted s.graph = sym is_read ∙ s.read in
    let g : prose_graph ≡ s.graph = cc in
    let r : true ≡ false = sym (paths_mean.finds s.graph cs (s.whenever cs claimed)) ∙ sym (ap (λ (x : Graph). is_rejected x cs) g) ∙ not-rejected in
    subst T r tt
