-- No graph of E edges without operators costs more than 10E − 2 gates; the dearest graph's text is read as that graph, which
-- costs just that. Assumes nothing.
use Rattle.std.specs.Prelude.{Ok}
use Prim.Native.Nat.{ℕ, zero, suc, ◌+◌, ◌-◌, ◌*◌, ◌≤◌}
use mathlib.Core.Path.{◌≡◌, refl, ap, sym, subst, ◌∙◌}
use mathlib.Core.Bool.{true, false}
use mathlib.Core.List.{List, [], ◌∷◌, ◌++◌, map, append_assoc, append-nil}
use native.Mathlib.Omega.{arith}
use lib.Dec.{lit≤, lit<}
use lib.ListN.{length, length-append, replicate, length-replicate}
use Rattle.text.specs.Writer.{joined}
use Rattle.formula.specs.Classes.{class_of, is_letter, is_word_class, strength_of, start_of, name_bytes, is_name}
use Rattle.formula.specs.Grammar.{and_then, operand_of, expression_of, rest_of, whole, tree_of, depth_of}
use Rattle.assertion.specs.Graph.{Bytes, Expr, Edge, Graph, bits_of, signal_bits, constant_bits, is_terminal, operators}
use Rattle.graph.specs.Pieces.{same, place_of, look_up}
use Rattle.graph.specs.Reading.{known, fits, resolved, judged_tree, tree_expr, accepted, graph_of}
use Rattle.graph_print.proofs.Print.{mark_of, fields_of, line_of, lines_of, mode_records, edge_record, records_of, text_of}
use Rattle.graph_print.proofs.Printable.{EdgePrints, AllPrint, Printable}
use Rattle.graph_print.proofs.NameLaws.{names_by, distinct_none, distinct_by}
use Rattle.graph_print.proofs.PrintLaws.{printed}
use Rattle.circuit.specs.Count.{formula_gates, all_formula_gates, all_operators, incoming, terminals, gate_formula}
use Rattle.circuit.proofs.Count as count
use Rattle.demand.specs.Demand.{Demand3}
use Rattle.builder.specs.Build.{build_of}
use Rattle.builder.proofs.GraphLaws as read
use Rattle.builder.proofs.DemandLaws.{build_means}
use Rattle.dearest_text.specs.Dearest.{loop, dearest_graph, vertex_line, loop_line, dearest_text}
use Rattle.dearest_text.specs.Claims.{NoOperator, NoOperators, Operatorless, Dearest}
use Rattle.dearest_text.specs.Claims.NoOperator.{is-truth, is_signal, is-constant, is-neg}

-- ---- the bound
none-counted : (x : Expr) → NoOperator x → operators x ≡ 0
unfolding operators
none-counted x (is-truth b) = refl
none-counted x (is_signal i) = refl
none-counted x (is-constant j) = refl
none-counted x (is-neg {x = y} h) = none-counted y h

all_uncounted : (es : List Edge) → NoOperators es → all_operators es ≡ 0
all_uncounted [] h = refl
all_uncounted (e ∷ es) h = omega (arith, none-counted e.antecedent h.0, none-counted e.consequent h.1, all_uncounted es h.2)

-- of every accepted graph without operators
pub formula-most : (edges : ℕ) (text : Bytes) (g : Graph) → Operatorless edges text g → gate_formula g ≤ 10 * edges - 2
formula-most edges text g o =
    subst (λ (e : ℕ). gate_formula g ≤ 10 * e - 2) o.count
    (count.most g (read.fits text o.read) (all_uncounted g.edges o.no_operators))

-- ---- the text
-- lines that are all the same, the first or the last taken off
same_lines : (e : ℕ) → loop_line ++ joined (λ _. loop_line) e ≡ joined (λ _. loop_line) e ++ loop_line
same_lines zero = append-nil loop_line
same_lines (suc e) = sym (append_assoc loop_line (joined (λ _. loop_line) e) loop_line) ∙ ap (λ (s : Bytes). s ++ loop_line) (same_lines e)

loop-lines : (e n : ℕ) → lines_of (map (edge_record (dearest_graph n)) (replicate e loop)) ≡ joined (λ _. loop_line) e
unfolding dearest_graph lines_of line_of fields_of mark_of edge_record loop_line
loop-lines zero n = refl
loop-lines (suc e) n = ap (λ (s : Bytes). loop_line ++ s) (loop-lines e n) ∙ same_lines e

text-is : (e : ℕ) → text_of (dearest_graph e) ≡ dearest_text e
unfolding text_of records_of mode_records dearest_text dearest_graph vertex_line lines_of line_of fields_of
text-is e = ap (λ (s : Bytes). vertex_line ++ s) (loop-lines e e)

pub size : (e : ℕ) → length (dearest_text e) ≡ length vertex_line + length loop_line * e
unfolding dearest_text loop_line
size e = omega (arith, length-append vertex_line (joined (λ _. loop_line) e), lines-length e)
  where
    lines-length : (n : ℕ) → length (joined (λ _. loop_line) n) ≡ 12 * n
    lines-length zero = refl
    lines-length (suc n) = omega (arith, length-append (joined (λ _. loop_line) n) loop_line, lines-length n)

short : (e : ℕ) → e ≤ 128 → length (dearest_text e) ≤ 32768
unfolding vertex_line loop_line
short e h = omega (arith, size e)

-- ---- it is read as the graph
loop_prints : (n : ℕ) → EdgePrints (dearest_graph n) loop
unfolding dearest_graph class_of is_letter is_word_class strength_of start_of and_then operand_of expression_of rest_of whole tree_of depth_of known fits resolved judged_tree tree_expr
loop_prints n =
    record { from = lit< tt; to = lit< tt; antecedent = record { fine = refl; is = refl }; consequent = record { fine = refl; is = refl } }

loops_print : (e n : ℕ) → AllPrint (dearest_graph n) (replicate e loop)
loops_print zero n = tt
loops_print (suc e) n = (loop_prints n, loops_print e n)

printable : (e : ℕ) → e ≤ 128 → Printable (dearest_graph e)
unfolding dearest_graph class_of is_letter is_word_class name_bytes is_name same place_of look_up bits_of signal_bits constant_bits
printable e h =
    record {
      signals = tt;
      constants = tt;
      vertices = names_by (dearest_graph e).vertices refl;
      symbols_distinct = distinct_none;
      vertices_distinct = distinct_by (dearest_graph e).vertices refl;
      signals-few = lit≤ tt;
      constants-few = lit≤ tt;
      vertices-some = lit≤ tt;
      vertices-few = lit≤ tt;
      edges_few = omega (arith, length-replicate e loop);
      edges = loops_print e e;
      short = subst (λ (s : Bytes). length s ≤ 32768) (sym (text-is e)) (short e h);
    }

graph : (e : ℕ) → e ≤ 128 → graph_of (dearest_text e) ≡ accepted (dearest_graph e)
graph e h = ap graph_of (sym (text-is e)) ∙ printed (dearest_graph e) (printable e h)

-- ---- what it costs
loops_formulas : (e : ℕ) → all_formula_gates (replicate e loop) ≡ 0
unfolding formula_gates
loops_formulas zero = refl
loops_formulas (suc e) = omega (arith, loops_formulas e)

no_operators : (e : ℕ) → NoOperators (replicate e loop)
no_operators zero = tt
no_operators (suc e) = (is-truth true, is-truth true, no_operators e)

loops_terminal : (e n : ℕ) → terminals (dearest_graph n) (replicate e loop) ≡ e
unfolding is_terminal dearest_graph
loops_terminal zero n = refl
loops_terminal (suc e) n = omega (arith, loops_terminal e n)

loops_entered : (e : ℕ) → incoming 0 (replicate e loop) ≡ e
loops_entered zero = refl
loops_entered (suc e) = omega (arith, loops_entered e)

cost : (e : ℕ) → gate_formula (dearest_graph e) ≡ 10 * e - 2
unfolding dearest_graph gate_formula
cost e = omega (arith, length-replicate e loop, loops_entered e, loops_terminal e e, loops_formulas e)

edges : (e : ℕ) → length (dearest_graph e).edges ≡ e
unfolding dearest_graph
edges e = length-replicate e loop

no_bits : (e : ℕ) → (signal_bits (dearest_graph e) ≡ 0) × (constant_bits (dearest_graph e) ≡ 0)
unfolding dearest_graph bits_of signal_bits constant_bits
no_bits e = (refl, refl)

module _ (e : ℕ) (few : e ≤ 128) where
  operatorless : Operatorless e (dearest_text e) (dearest_graph e)
  unfolding dearest_graph
  operatorless = record { read = graph e few; count = edges e; no_operators = no_operators e }

  built : (net : List ℕ) → 1 ≤ e → 24 * e + 2 ≤ length net → (build_of false (dearest_text e) net).answer ≡ Ok (10 * e - 2)
  built net some h =
      let n : gate_formula (dearest_graph e) + 0 ≡ 10 * e - 2 = omega (arith, cost e) in
      (build_means false (dearest_text e) net).accepts (dearest_graph e) (graph e few)
      (omega (arith, cost e, edges e, (no_bits e).0, (no_bits e).1)) (omega (arith, cost e, edges e, (no_bits e).1)) ∙ ap Ok n

  pub dearest : 1 ≤ e → Dearest e (dearest_text e)
  dearest some =
      record {
        graph = operatorless;
        built = λ net h. built net some h;
        most = λ other g net made o b.
            let d : Demand3 _ _ _ _ = (build_means false other net).demand g made o.read b [] in
            omega (arith, d.formula, formula-most e other g o);
      }
