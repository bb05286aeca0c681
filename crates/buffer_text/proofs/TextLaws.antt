-- The buffer's text is that of its graph, and is read as that graph. Assumes nothing.
use Prim.Native.Nat.{ℕ, zero, suc, ◌+◌, ◌-◌, ◌*◌, ◌<◌, ◌≤◌}
use mathlib.Core.Path.{◌≡◌, refl, ap, ap₂, sym, subst, ◌∙◌}
use mathlib.Core.Bool.{Bool, true, false}
use mathlib.Core.List.{List, [], ◌∷◌, ◌++◌, map, map-append, append_assoc, Memᴰ}
use native.Mathlib.Numerals.{add-one}
use native.Mathlib.Omega.{arith}
use native.Mathlib.Decide.{ℕ_discrete}
use borrow.Author.Tests.{le-leb, lt-leb, eqb-false}
use lib.Dec.{eqb, lit≤}
use lib.ListN.{length, get_or, length-append, get_or-append}
use lib.Seq.{get_or-append_seam}
use Rattle.text.specs.Quoted.{byte, bytes}
use Rattle.text.specs.Numbers.{is_digit, digits, digits_of, value_from}
use Rattle.text.specs.Writer.{joined}
use Rattle.text.proofs.NumberLaws.{digits-length, digit_range, EachDigit, each-digits, value-digits}
use Rattle.formula.specs.Classes.{class_of, is_letter, is_word_class, in_name, strength_of, start_of, run, name_bytes, is_name}
use Rattle.formula.specs.Grammar.{and_then, name_of, closed, operand_of, expression_of, rest_of, whole, tree_of, depth_of}
use Rattle.assertion.specs.Graph.{Bytes, Edge, bits_of, signal_bits, constant_bits}
use Rattle.graph.specs.Pieces as pieces
use Rattle.graph.specs.Pieces.{place_of, look_up, placed, look_up_name}
use Rattle.graph.specs.Records.{Record, vertex}
use Rattle.graph.specs.Reading.{known, fits, symbol, resolved, judged_tree, tree_expr, accepted, graph_of}
use Rattle.graph.specs.Reading as reading
use Rattle.graph.proofs.FormulaTextLaws.{place_inside, place-finds}
use Rattle.graph_print.proofs.Print.{mark_of, width_field, fields_of, line_of, lines_of, mode_records, signal_record, edge_record, records_of, text_of}
use Rattle.graph_print.proofs.Printable.{AllNames, Sized, Distinct, Label, AllPrint, Printable}
use Rattle.graph_print.proofs.NameLaws.{distinct_cons, distinct_by}
use Rattle.graph_print.proofs.ReadLaws.{lines-append}
use Rattle.graph_print.proofs.PrintLaws.{printed}
use Rattle.buffer_text.specs.Text.{heading, vertex_line, start_line, edge_line, count_lines, buffer_text}
use Rattle.buffer_text.proofs.Graph.{Spelled, reset, enq, deq, empty, full, always, off, both, alike, none_flags, all_flags, some_flags, counting, edges_of, edges_at, edges_below, start, count_name, names_below, buffer_graph}
use Rattle.buffer_text.proofs.SizeLaws.{size-most}

-- ---- the vertices' names
digit-in_name : (b : ℕ) → is_digit b ≡ true → in_name b ≡ true
unfolding class_of is_word_class
digit-in_name b h =
    let r = digit_range b h in
    rw (lt-leb 65 b (omega arith), lt-leb 97 b (omega arith), le-leb 48 b r.0, le-leb b 57 r.1)

digits-in_name : (ds : Bytes) → EachDigit ds → name_bytes ds ≡ true
unfolding EachDigit name_bytes
digits-in_name [] h = refl
digits-in_name (d ∷ ds) h = rw (digit-in_name d h.0, digits-in_name ds h.1)

count-name : (n : ℕ) → n < 100 → is_name (count_name n) ≡ true
unfolding is_name class_of is_letter
count-name n h = rw (le-leb (length (digits n)) 14 (omega (arith, digits-length 1 n h)), digits-in_name (digits n) (each-digits n))

names-are : (m : ℕ) → m ≤ 100 → AllNames (names_below m)
names-are zero h = tt
names-are (suc m) h = each (names_below m) (names-are m (omega arith))
  where
    each : (ns : List Bytes) → AllNames ns → AllNames (ns ++ (count_name m ∷ []))
    each [] a = (count-name m (omega arith), tt)
    each (n ∷ ns) a = (a.0, each ns a.1)

names-length : (m : ℕ) → length (names_below m) ≡ m
names-length zero = refl
names-length (suc m) = omega (arith, length-append (names_below m) (count_name m ∷ []), names-length m)

name-at : (m i : ℕ) → i < m → get_or (names_below m) i [] ≡ count_name i
name-at zero i h = absurd (omega arith)
name-at (suc m) i h = elim (ℕ_discrete i m) [
  | yes q ↦
      let e : i ≡ length (names_below m) = omega (arith, names-length m) in
      ap (λ (j : ℕ). get_or (names_below (suc m)) j []) e ∙ get_or-append_seam (names_below m) (count_name m) [] [] ∙ ap count_name (sym q)
  | no d ↦ get_or-append (names_below m) (count_name m ∷ []) [] i (omega (arith, names-length m, d)) ∙ name-at m i (omega (arith, d))
]

-- names of different counts differ
names_distinct : (m : ℕ) → Distinct (names_below m)
names_distinct m i j l h e =
    let d : count_name i ≡ count_name j = sym (name-at m i (omega (arith, names-length m))) ∙ e ∙ name-at m j (omega (arith, names-length m)) in
    let t : digits i ≡ digits j = cc in
    let n : i ≡ j = sym (value-digits i) ∙ ap (value_from 0) t ∙ value-digits j in
    omega arith

-- and none is the start's
start-apart : (m : ℕ) → Memᴰ (bytes "s") (names_below m) → ⊥
start-apart m h =
    let i : ℕ = place_of (bytes "s") (names_below m) in
    let l : i < m = omega (arith, names-length m, place_inside (bytes "s") (names_below m) h) in
    let d : count_name i ≡ bytes "s" = sym (name-at m i l) ∙ place-finds (bytes "s") (names_below m) h in
    let z : ◌≡◌ {A = ℕ} 110 115 = cc in
    omega arith

module _ (k : ℕ) where
  pub vertices-length : length (buffer_graph k).vertices ≡ 2 + k
  vertices-length = omega (arith, names-length (suc k))

  -- ---- the labels
  abbrev Written : Spelled → Type 0
  Written a = Label (buffer_graph k) a.text a.tree

  record Labels : Type 0 where
    l-reset : Written reset
    l_always : Written always
    l_enq : Written enq
    l_no_enq : Written (off enq)
    l_deq : Written deq
    l_no_deq : Written (off deq)
    l_up : Written (both enq (off deq))
    l_down : Written (both (off enq) deq)
    l_stay : Written (alike enq deq)
    l-none : Written none_flags
    l-all : Written all_flags
    l-some : Written some_flags

  labels : Labels
  unfolding class_of is_letter is_word_class strength_of start_of run name_bytes is_name and_then name_of closed operand_of expression_of rest_of whole tree_of depth_of pieces.same placed look_up_name known fits reading.joined symbol resolved judged_tree tree_expr bits_of signal_bits
  labels =
      record {
        l-reset = record { fine = refl; is = refl };
        l_always = record { fine = refl; is = refl };
        l_enq = record { fine = refl; is = refl };
        l_no_enq = record { fine = refl; is = refl };
        l_deq = record { fine = refl; is = refl };
        l_no_deq = record { fine = refl; is = refl };
        l_up = record { fine = refl; is = refl };
        l_down = record { fine = refl; is = refl };
        l_stay = record { fine = refl; is = refl };
        l-none = record { fine = refl; is = refl };
        l-all = record { fine = refl; is = refl };
        l-some = record { fine = refl; is = refl };
      }

  -- ---- the edges, each with the line that it has
  abbrev record_of : Edge → Record
  record_of = edge_record (buffer_graph k)

  record Prints (es : List Edge) (text : Bytes) : Type 0 where
    fine : AllPrint (buffer_graph k) es
    lines : lines_of (map record_of es) ≡ text

  none_prints : Prints [] []
  unfolding lines_of
  none_prints = record { fine = tt; lines = refl }

  append_prints : {es fs : List Edge} {s t : Bytes} → Prints es s → Prints fs t → Prints (es ++ fs) (s ++ t)
  append_prints {es} {fs} p q =
      record {
        fine = both-fine es p.fine;
        lines = ap lines_of (map-append record_of es fs) ∙ lines-append (map record_of es) (map record_of fs) ∙ ap₂ ◌++◌ p.lines q.lines;
      }
    where
      both-fine : (xs : List Edge) → AllPrint (buffer_graph k) xs → AllPrint (buffer_graph k) (xs ++ fs)
      both-fine [] h = q.fine
      both-fine (x ∷ xs) h = (h.0, both-fine xs h.1)

  edge_prints : (n m : ℕ) (a c : Spelled) → n ≤ k → m ≤ k → Written a → Written c → Prints (counting n m a c ∷ []) (edge_line n m (a.text ++ (byte "\t" ∷ c.text)))
  unfolding lines_of line_of fields_of mark_of edge_record edge_line
  edge_prints n m a c h l p q =
      let x : Bytes = digits n in
      let y : Bytes = digits m in
      let labels : Bytes = a.text ++ (9 ∷ c.text) in
      record {
        fine = (record { from = omega (arith, vertices-length); to = omega (arith, vertices-length); antecedent = p; consequent = q }, tt);
        lines =
            rw (
              name-at (suc k) n (omega arith),
              name-at (suc k) m (omega arith),
              append_assoc x (9 ∷ 110 ∷ (y ++ (9 ∷ 116 ∷ 9 ∷ labels))) (10 ∷ []),
              append_assoc y (9 ∷ 116 ∷ 9 ∷ labels) (10 ∷ []),
            );
      }

  start_prints : Prints (start ∷ []) start_line
  unfolding lines_of line_of fields_of mark_of edge_record start_line digits digits_of
  start_prints =
      record {
        fine = (record { from = omega (arith, vertices-length); to = omega (arith, vertices-length); antecedent = labels.l-reset; consequent = labels.l_always }, tt);
        lines = rw (name-at (suc k) 0 (omega arith));
      }

  count_prints : (n : ℕ) (z w : Bool) → eqb n 0 ≡ z → eqb n k ≡ w → 1 ≤ k → n ≤ k → Prints (edges_at k n) (count_lines k n)
  unfolding count_lines
  count_prints n true w d e h l =
      rw d
      (append_prints
      (edge_prints n 1 enq none_flags l h labels.l_enq labels.l-none)
      (edge_prints n 0 (off enq) none_flags l (omega arith) labels.l_no_enq labels.l-none))
  count_prints n false true d e h l =
      rw (d, e)
      (append_prints
      (edge_prints n (k - 1) deq all_flags l (omega arith) labels.l_deq labels.l-all)
      (edge_prints n k (off deq) all_flags l (omega arith) labels.l_no_deq labels.l-all))
  count_prints n false false d e h l =
      rw (d, e)
      (append_prints
      (edge_prints n (n + 1) (both enq (off deq)) some_flags l (omega (arith, eqb-false n k e)) labels.l_up labels.l-some)
      (append_prints
      (edge_prints n (n - 1) (both (off enq) deq) some_flags l (omega arith) labels.l_down labels.l-some)
      (edge_prints n n (alike enq deq) some_flags l l labels.l_stay labels.l-some)))

  counts_print : (m : ℕ) → 1 ≤ k → m ≤ suc k → Prints (edges_below k m) (joined (count_lines k) m)
  counts_print zero h l = none_prints
  counts_print (suc m) h l = append_prints (counts_print m h (omega arith)) (count_prints m (eqb m 0) (eqb m k) refl refl h (omega arith))

  edges_print : 1 ≤ k → Prints (buffer_graph k).edges (start_line ++ joined (count_lines k) (suc k))
  edges_print h = append_prints start_prints (counts_print (suc k) h (omega arith))

  -- ---- the text
  vertices-text : (m : ℕ) → lines_of (map vertex (names_below m)) ≡ joined vertex_line m
  unfolding lines_of line_of fields_of vertex_line
  vertices-text zero = refl
  vertices-text (suc m) =
      ap lines_of (map-append vertex (names_below m) (count_name m ∷ []))
      ∙ lines-append (map vertex (names_below m)) (vertex (count_name m) ∷ [])
      ∙ ap (λ (s : Bytes). s ++ vertex_line m) (vertices-text m)

  heading-text : (rs : List Record) → lines_of (map signal_record (buffer_graph k).signals ++ (vertex (bytes "s") ∷ rs)) ≡ heading ++ lines_of rs
  unfolding lines_of line_of fields_of width_field heading
  heading-text rs = refl

  text-is : 1 ≤ k → text_of (buffer_graph k) ≡ buffer_text k
  unfolding text_of records_of mode_records buffer_text
  text-is h =
      let names : List Record = map vertex (names_below (suc k)) in
      let edges : List Record = map record_of (buffer_graph k).edges in
      heading-text (names ++ edges)
      ∙ ap (λ (s : Bytes). heading ++ s) (lines-append names edges ∙ ap₂ ◌++◌ (vertices-text (suc k)) (edges_print h).lines)
      ∙ rw (add-one k)

  -- ---- so it is read as the graph
  edges_few : (m : ℕ) → length (edges_below k m) ≤ 3 * m
  edges_few zero = omega arith
  edges_few (suc m) = omega (arith, length-append (edges_below k m) (edges_at k m), at_most (eqb m 0) (eqb m k), edges_few m)
    where
      at_most : (z w : Bool) → length (edges_of z w k m) ≤ 3
      at_most true w = lit≤ tt
      at_most false true = lit≤ tt
      at_most false false = lit≤ tt

  one_bit : {n : Bytes} → is_name n ≡ true → Sized n 1
  one_bit e = record { is_name = e; width_fits = record { some = lit≤ tt; most = lit≤ tt } }

  printable : 1 ≤ k → k ≤ 40 → Printable (buffer_graph k)
  unfolding pieces.same place_of look_up class_of is_letter is_word_class name_bytes is_name bits_of signal_bits constant_bits
  printable h l =
      record {
        signals = (one_bit refl, (one_bit refl, (one_bit refl, (one_bit refl, (one_bit refl, tt)))));
        constants = tt;
        vertices = (refl, names-are (suc k) (omega arith));
        symbols_distinct = distinct_by (reset.text ∷ enq.text ∷ deq.text ∷ empty.text ∷ full.text ∷ []) refl;
        vertices_distinct = distinct_cons (bytes "s") (names_below (suc k)) (start-apart (suc k)) (names_distinct (suc k));
        signals-few = lit≤ tt;
        constants-few = lit≤ tt;
        vertices-some = omega (arith, vertices-length);
        vertices-few = omega (arith, vertices-length);
        edges_few = omega (arith, edges_few (suc k));
        edges = (edges_print h).fine;
        short = subst (λ (s : Bytes). length s ≤ 32768) (sym (text-is h)) (omega (arith, size-most k h l));
      }

  pub graph : 1 ≤ k → k ≤ 40 → graph_of (buffer_text k) ≡ accepted (buffer_graph k)
  graph h l = ap graph_of (sym (text-is h)) ∙ printed (buffer_graph k) (printable h l)
