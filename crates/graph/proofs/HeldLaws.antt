-- What an accepted text's graph and its arrays satisfy: the limits, the names and formulas at their places,
-- known vertices, and formulas of the grammar with known names. Assumes nothing.
use Rattle.std.specs.Prelude.{is_some, Some, None, Result, Ok, Err}
use Prim.Native.Nat.{ℕ, zero, suc, ◌+◌, ◌-◌, ◌≤◌, ◌<◌}
use mathlib.Core.Path.{◌≡◌, refl, sym, ap, subst, ◌∙◌}
use mathlib.Core.Bool.{Bool, true, false}
use mathlib.Core.List.{List, [], ◌∷◌, ◌++◌, map-append, append-nil, append_assoc}
use native.Mathlib.Nat.{add-zero}
use native.Mathlib.Numerals.{add-one}
use native.Mathlib.Omega.{arith}
use borrow.Author.Tests.{ltb-true, ltb-false, leb-false, eqb-false}
use lib.Dec.{eqb, ltb, leb}
use lib.ListN.{length, get_or, drop, replicate, length-append, length-take, length-drop, length-map, get_or-append, get_or-map}
use Rattle.formula.specs.Classes.{pick}
use Rattle.formula.specs.Grammar.{Parsed, none, tree, tree_of, depth_of}
use Rattle.formula.proofs.PostfixLaws.{words-some, words_fit_lem, in_field}
use Rattle.assertion.specs.Graph.{Bytes, Expr, Name, Edge, Graph, bits_of, signal_bits, constant_bits, is_terminal}
use Rattle.assertion.specs.declared.Mode.{Mode}
use Rattle.graph.specs.Pieces.{place_of, split, end_at, piece_at, look_up, Declared, placed, look_up_name}
use Rattle.graph.specs.Records.{Record, shapeless, mode, signal, constant, vertex, edge, record_of}
use Rattle.graph.specs.Reading.{
  mode_lines,
  add_mode,
  known,
  fits,
  sized_name,
  judged_tree,
  judged_formula,
  tree_expr,
  names_of,
  lower,
  Step,
  fault,
  went,
  add_signal,
  add_constant,
  add_vertex,
  edge_of,
  unless_faulty,
  judge_edge,
  add_edge,
  add,
  refused,
  accepted,
  finished,
  read_lines,
  nothing,
  graph_of,
}
use Rattle.graph.specs.Meaning.{IsWidth, EachWidth}
use Rattle.graph.specs.Held.{declared_in, line_start, line_of, field_start, field_at, field_length, symbols_of, name_places, arc_of, arcs_of, no_arc, filled, held_as, held_of}
use Rattle.graph.specs.Private.Steps.{points, held, named_of, records_of}
use Rattle.graph.specs.declared.Fault.{Fault}
use Rattle.graph.specs.declared.Cause.TheVariants.{TextTooLong, FaultyLine, NoVertex}
use Rattle.graph.specs.Claims.{FormulaAt, FormulaSound, EdgeSound, Sound}
use Rattle.graph.proofs.PieceLaws.{split-some}
use Rattle.graph.proofs.BreakLaws.{line-inside, breaks-from}
use Rattle.graph.proofs.EdgeLineLaws.{fits_line_lem, edge-behind}
use Rattle.graph.proofs.ModeLineLaws.{mode_said}
use Rattle.graph.proofs.FieldLaws.{EdgeFields, SymbolFields, NameAt, Fits, line-fits, two-left}
use Rattle.graph.proofs.BitLaws.{bits-append, bits-more, bits-some, each_left, each_both, placed-more, symbol-back}
use Rattle.graph.proofs.MeaningLaws.{meaning}
use Rattle.graph.proofs.DifferLaws.{Differ, differ-more}
use Rattle.graph.proofs.SymbolLaws.{SymbolLines, every-line, signal_lines, constant-lines, symbol-is, all-widths}
use Rattle.graph.proofs.ArrayLaws.{filled-length, symbols-length, symbols-more, symbols-first, places-length, places-more, places-first, none_list, one_more_lem, arcs-length}

-- ---- what is claimed
-- an edge of line n, terminal or not
pub record EdgeHere (text : Bytes) (ss cs : List Name) (vs : List Bytes) (n : ℕ) (e : Edge) : Type 0 where
  pub holds : (t : Bool) → EdgeSound text ss cs vs t (arc_of text n t e) e
  pub fields : EdgeFields (line_of text n)

-- edges whose first is line n
abbrev pub EdgesSound : Bytes → List Name → List Name → List Bytes → ℕ → List Edge → Type 0
EdgesSound text ss cs vs n [] = Unit {0}
EdgesSound text ss cs vs n (e ∷ es) = EdgeHere text ss cs vs n e × EdgesSound text ss cs vs (n + 1) es

-- the graph of the lines read so far
pub record Grown (text : Bytes) (graph : Graph) : Type 0 where
  pub signals-few : signal_bits graph ≤ 63
  pub constants-few : constant_bits graph ≤ 6
  pub widths : EachWidth (graph.signals ++ graph.constants)
  pub differ : Differ (graph.signals ++ graph.constants)
  pub lines : SymbolLines text (mode_lines graph.mode) (length graph.signals) (graph.signals ++ graph.constants)
  pub vertices-few : length graph.vertices ≤ 64
  pub edges_few : length graph.edges ≤ 128
  pub names : held text (symbols_of text (mode_lines graph.mode) 0 (graph.signals ++ graph.constants)) ≡ names_of graph
  pub vertices : points text (name_places text (mode_lines graph.mode + named_of graph) (length graph.vertices)) ≡ graph.vertices
  pub edges : EdgesSound text graph.signals graph.constants graph.vertices (mode_lines graph.mode + named_of graph + length graph.vertices) graph.edges

-- ---- tests that went through
pub pick-fault : (t : Bool) (f : Fault) (x : Step) {graph : Graph} → pick t (fault f) x ≡ went graph → (t ≡ false) × (x ≡ went graph)
pick-fault true f x h = let z : ◌≡◌ {A = ℕ} 0 1 = cc in absurd (omega arith)
pick-fault false f x h = (refl, h)

pick-went : (t : Bool) (x : Step) (f : Fault) {graph : Graph} → pick t x (fault f) ≡ went graph → (t ≡ true) × (x ≡ went graph)
pick-went true x f h = (refl, h)
pick-went false x f h = let z : ◌≡◌ {A = ℕ} 0 1 = cc in absurd (omega arith)

pick-fine : (t : Bool) (f : Fault) (x : Result Unit Fault) → pick t (Err f) x ≡ Ok tt → (t ≡ false) × (x ≡ Ok tt)
pick-fine true f x h = let z : ◌≡◌ {A = ℕ} 0 1 = cc in absurd (omega arith)
pick-fine false f x h = (refl, h)

fine-went : (t : Bool) (x : Result Unit Fault) (f : Fault) → pick t x (Err f) ≡ Ok tt → (t ≡ true) × (x ≡ Ok tt)
fine-went true x f h = (refl, h)
fine-went false x f h = let z : ◌≡◌ {A = ℕ} 0 1 = cc in absurd (omega arith)

fine-pick : (t : Bool) (f : Fault) → ◌≡◌ {A = Result Unit Fault} (pick t (Ok tt) (Err f)) (Ok tt) → t ≡ true
fine-pick true f h = refl
fine-pick false f h = let z : ◌≡◌ {A = ℕ} 0 1 = cc in absurd (omega arith)

lower-fine : (a b : Result Unit Fault) → lower a b ≡ Ok tt → (a ≡ Ok tt) × (b ≡ Ok tt)
unfolding lower
lower-fine (Ok tt) b h = (refl, h)
lower-fine (Err f) (Ok tt) h = let z : ◌≡◌ {A = ℕ} 0 1 = cc in absurd (omega arith)
lower-fine (Err f) (Err k) h = let z : ◌≡◌ {A = ℕ} 0 1 = cc in absurd (omega arith)

-- ---- formulas
module _ (ss cs : List Name) (wide : EachWidth (ss ++ cs)) (s : Bytes) where
  tree_sound : (t : Parsed) → tree_of s ≡ t → judged_tree (placed 0 (ss ++ cs)) s t ≡ Ok tt → FormulaSound ss cs s (tree_expr (bits_of ss) (placed 0 (ss ++ cs)) s t)
  unfolding judged_tree tree_expr
  tree_sound none e h = let z : ◌≡◌ {A = ℕ} 0 1 = cc in absurd (omega arith)
  tree_sound (tree x) e h =
      let d = pick-fine (ltb 16 (depth_of x)) _ _ h in
      let k = fine-went (known (placed 0 (ss ++ cs)) s x) _ _ d.1 in
      let f = fine-pick (fits (placed 0 (ss ++ cs)) s x) _ k.1 in
      record {
        parse = x;
        parsed = e;
        shallow = ltb-false 16 (depth_of x) d.0;
        names-known = k.0;
        widths_fit = f;
        resolves = refl;
        means = meaning ss cs wide s x (in_field s x e) k.0 f;
      }

  formula_sound : judged_formula (placed 0 (ss ++ cs)) s ≡ Ok tt → FormulaSound ss cs s (tree_expr (bits_of ss) (placed 0 (ss ++ cs)) s (tree_of s))
  formula_sound h = tree_sound (tree_of s) refl h

-- a field begins behind the tab that ends the one before it
next_field : (text : Bytes) (n k : ℕ) → field_at text n (suc k) ≡ field_at text n k + field_length (line_of text n) k + 1
unfolding field_at field_start field_length end_at
next_field text n k = omega arith

-- ---- one more name, and one more edge
held_more : (text : Bytes) (n : ℕ) (xs : List Name) (x : Name) → held text (symbols_of text n 0 xs) ≡ placed 0 xs → NameAt text (n + length xs) x.name → length x.name ≤ 15 → x.width ≤ 16 → bits_of xs ≤ 69 → held text (symbols_of text n 0 (xs ++ (x ∷ []))) ≡ placed 0 (xs ++ (x ∷ []))
held_more text n xs x h p l w b =
    let k = n + length xs in
    let y = symbol-back text (field_at text k 1) (field_length (line_of text k) 1) (0 + bits_of xs) x.width (omega (arith, p.long)) (omega arith) (omega arith) in
    rw (symbols-more text n 0 xs x, placed-more 0 xs x, map-append (declared_in text) (symbols_of text n 0 xs) _, h, y, p.bytes)

held_none : (text : Bytes) (n : ℕ) → held text (symbols_of text n 0 []) ≡ placed 0 []
unfolding symbols_of placed
held_none text n = refl

points-more : (text : Bytes) (n c : ℕ) → points text (name_places text n (suc c)) ≡ points text (name_places text n c) ++ (piece_at 10 text (field_at text (n + c) 1) ∷ [])
points-more text n c = rw (places-more text n c) (map-append (piece_at 10 text) (name_places text n c) (field_at text (n + c) 1 ∷ []))

points_none : (text : Bytes) (n : ℕ) → points text (name_places text n 0) ≡ []
unfolding name_places
points_none text n = refl

edges_more : (text : Bytes) (ss cs : List Name) (vs : List Bytes) (n : ℕ) (es : List Edge) (e : Edge) → EdgesSound text ss cs vs n es → EdgeHere text ss cs vs (n + length es) e → EdgesSound text ss cs vs n (es ++ (e ∷ []))
edges_more text ss cs vs n [] e h k = (rw (add-zero n) at k, tt)
edges_more text ss cs vs n (x ∷ es) e h k =
    let z : n + suc (length es) ≡ n + 1 + length es = omega arith in
    (h.0, edges_more text ss cs vs (n + 1) es e h.1 (rw z at k))

-- a known name's place is one of the list
pub known-place : (n : Bytes) (ms : List Bytes) → is_some (look_up n ms) ≡ true → place_of n ms < length ms
unfolding look_up
known-place n ms h = by (ltb (place_of n ms) (length ms)) refl h
  where
    by : (t : Bool) → ltb (place_of n ms) (length ms) ≡ t → is_some (elim t [ true ↦ Some (place_of n ms) | false ↦ None ]) ≡ true → place_of n ms < length ms
    by true e k = ltb-true _ _ e
    by false e k = let z : ◌≡◌ {A = ℕ} 0 1 = cc in absurd (omega arith)

-- ---- one record more
-- a graph with one record more is grown, and has one record more
pub record OneMore (text : Bytes) (n : ℕ) (graph : Graph) : Type 0 where
  pub grown : Grown text graph
  pub count : records_of graph ≡ n + 1

abbrev pub plus_mode : Graph → Mode → Graph
plus_mode graph m = record { mode = m; signals = graph.signals; constants = graph.constants; vertices = graph.vertices; edges = graph.edges }

abbrev pub plus_signal : Graph → Bytes → ℕ → Graph
plus_signal graph n w = record { mode = graph.mode; signals = graph.signals ++ (sized_name n w ∷ []); constants = graph.constants; vertices = graph.vertices; edges = graph.edges }

abbrev pub plus_constant : Graph → Bytes → ℕ → Graph
plus_constant graph n w = record { mode = graph.mode; signals = graph.signals; constants = graph.constants ++ (sized_name n w ∷ []); vertices = graph.vertices; edges = graph.edges }

abbrev pub plus_vertex : Graph → Bytes → Graph
plus_vertex graph n = record { mode = graph.mode; signals = graph.signals; constants = graph.constants; vertices = graph.vertices ++ (n ∷ []); edges = graph.edges }

abbrev pub plus_edge : Graph → Edge → Graph
plus_edge graph e = record { mode = graph.mode; signals = graph.signals; constants = graph.constants; vertices = graph.vertices; edges = graph.edges ++ (e ∷ []) }

unless_went : (j : Result Unit Fault) (graph : Graph) (e : Edge) {more : Graph} → unless_faulty j graph e ≡ went more → (j ≡ Ok tt) × (plus_edge graph e ≡ more)
unfolding unless_faulty
unless_went (Ok tt) graph e h = (refl, cc)
unless_went (Err f) graph e h = let z : ◌≡◌ {A = ℕ} 0 1 = cc in absurd (omega arith)

module _ (text : Bytes) (graph : Graph) (g : Grown text graph) where
  one_width : (n : Bytes) (w : ℕ) → IsWidth w → EachWidth (sized_name n w ∷ [])
  one_width n w i = (i, tt)

  plus_signal_lem : (n : Bytes) (w : ℕ) → NameAt text (records_of graph) n → IsWidth w → length n ≤ 15 → SymbolFields (line_of text (records_of graph)) 83 n w → is_some (look_up_name n (names_of graph)) ≡ false → length graph.constants + length graph.vertices + length graph.edges ≤ 0 → signal_bits graph + w ≤ 63 → OneMore text (records_of graph) (plus_signal graph n w)
  unfolding signal_bits constant_bits
  plus_signal_lem n w p i short fields new late few =
      let x = sized_name n w in
      let c0 : graph.constants ≡ [] = none_list graph.constants (omega arith) in
      let v0 : graph.vertices ≡ [] = none_list graph.vertices (omega arith) in
      let e0 : graph.edges ≡ [] = none_list graph.edges (omega arith) in
      let r0 : records_of graph ≡ mode_lines graph.mode + length graph.signals = omega arith in
      record {
        grown = record {
          signals-few = omega (arith, bits-more graph.signals x);
          constants-few = g.constants-few;
          widths = rw (c0, append-nil (graph.signals ++ (x ∷ []))) (each_both graph.signals (x ∷ []) (each_left graph.signals graph.constants g.widths) (one_width n w i));
          differ = rw (c0, append-nil (graph.signals ++ (x ∷ []))) (differ-more graph.signals x (rw (c0, append-nil graph.signals) at g.differ) (rw (c0, append-nil graph.signals) at new));
          lines = rw (c0, append-nil (graph.signals ++ (x ∷ []))) (signal_lines text (mode_lines graph.mode) graph.signals x (rw (c0, append-nil graph.signals) at g.lines) (rw r0 at fields));
          vertices-few = g.vertices-few;
          edges_few = g.edges_few;
          names = rw (c0, append-nil (graph.signals ++ (x ∷ []))) (held_more text (mode_lines graph.mode) graph.signals x (rw (c0, append-nil graph.signals) at g.names) (rw r0 at p) short i.most (omega arith));
          vertices = rw v0 (points_none text _);
          edges = rw e0 tt;
        };
        count = omega (arith, one_more_lem graph.signals x);
      }

  plus_constant_lem : (n : Bytes) (w : ℕ) → NameAt text (records_of graph) n → IsWidth w → length n ≤ 15 → SymbolFields (line_of text (records_of graph)) 75 n w → is_some (look_up_name n (names_of graph)) ≡ false → length graph.vertices + length graph.edges ≤ 0 → constant_bits graph + w ≤ 6 → OneMore text (records_of graph) (plus_constant graph n w)
  unfolding signal_bits constant_bits
  plus_constant_lem n w p i short fields new late few =
      let x = sized_name n w in
      let v0 : graph.vertices ≡ [] = none_list graph.vertices (omega arith) in
      let e0 : graph.edges ≡ [] = none_list graph.edges (omega arith) in
      let a0 = append_assoc graph.signals graph.constants (x ∷ []) in
      let r0 : records_of graph ≡ mode_lines graph.mode + length (graph.signals ++ graph.constants) = omega (arith, length-append graph.signals graph.constants) in
      record {
        grown = record {
          signals-few = g.signals-few;
          constants-few = omega (arith, bits-more graph.constants x);
          widths = rw (← a0) (each_both (graph.signals ++ graph.constants) (x ∷ []) g.widths (one_width n w i));
          differ = rw (← a0) (differ-more (graph.signals ++ graph.constants) x g.differ new);
          lines = rw (← a0) (constant-lines text (mode_lines graph.mode) (length graph.signals) (graph.signals ++ graph.constants) x (omega (arith, length-append graph.signals graph.constants)) g.lines (rw r0 at fields));
          vertices-few = g.vertices-few;
          edges_few = g.edges_few;
          names = rw (← a0) (held_more text (mode_lines graph.mode) (graph.signals ++ graph.constants) x g.names (rw r0 at p) short i.most (omega (arith, bits-append graph.signals graph.constants, g.signals-few)));
          vertices = rw v0 (points_none text _);
          edges = rw e0 tt;
        };
        count = omega (arith, one_more_lem graph.constants x);
      }

  plus_vertex_lem : (n : Bytes) → piece_at 10 text (field_at text (records_of graph) 1) ≡ n → length graph.edges ≤ 0 → length graph.vertices < 64 → OneMore text (records_of graph) (plus_vertex graph n)
  unfolding signal_bits constant_bits
  plus_vertex_lem n p late few =
      let e0 : graph.edges ≡ [] = none_list graph.edges (omega arith) in
      let k1 : length (graph.vertices ++ (n ∷ [])) ≡ suc (length graph.vertices) = omega (arith, one_more_lem graph.vertices n) in
      let r0 : mode_lines graph.mode + named_of graph + length graph.vertices ≡ records_of graph = omega arith in
      record {
        grown = record {
          signals-few = g.signals-few;
          constants-few = g.constants-few;
          vertices-few = omega (arith, k1);
          edges_few = g.edges_few;
          widths = g.widths;
          differ = g.differ;
          lines = g.lines;
          names = g.names;
          vertices = rw k1 (points-more text (mode_lines graph.mode + named_of graph) (length graph.vertices) ∙ rw (r0, p, g.vertices));
          edges = rw e0 tt;
        };
        count = omega (arith, k1);
      }

  plus_edge_lem : (e : Edge) → EdgeHere text graph.signals graph.constants graph.vertices (records_of graph) e → length graph.edges < 128 → OneMore text (records_of graph) (plus_edge graph e)
  unfolding signal_bits constant_bits
  plus_edge_lem e h few =
      record {
        grown = record {
          signals-few = g.signals-few;
          constants-few = g.constants-few;
          vertices-few = g.vertices-few;
          edges_few = omega (arith, one_more_lem graph.edges e);
          widths = g.widths;
          differ = g.differ;
          lines = g.lines;
          names = g.names;
          vertices = g.vertices;
          edges = edges_more text graph.signals graph.constants graph.vertices (mode_lines graph.mode + named_of graph + length graph.vertices) graph.edges e g.edges h;
        };
        count = omega (arith, one_more_lem graph.edges e);
      }

  plus_mode_lem : (m : Mode) → records_of graph ≤ 0 → mode_lines m ≡ 1 → OneMore text (records_of graph) (plus_mode graph m)
  unfolding signal_bits constant_bits
  plus_mode_lem m first one =
      let s0 : graph.signals ≡ [] = none_list graph.signals (omega arith) in
      let c0 : graph.constants ≡ [] = none_list graph.constants (omega arith) in
      let v0 : graph.vertices ≡ [] = none_list graph.vertices (omega arith) in
      let e0 : graph.edges ≡ [] = none_list graph.edges (omega arith) in
      record {
        grown = record {
          signals-few = g.signals-few;
          constants-few = g.constants-few;
          vertices-few = g.vertices-few;
          edges_few = g.edges_few;
          widths = g.widths;
          differ = g.differ;
          lines = rw (s0, c0) tt;
          names = rw (s0, c0) (held_none text _);
          vertices = rw v0 (points_none text _);
          edges = rw e0 tt;
        };
        count = omega (arith, one);
      }

  module _ {more : Graph} where
    mode_step : (m : Mode) → mode_lines m ≡ 1 → add_mode graph m ≡ went more → OneMore text (records_of graph) more
    unfolding add_mode
    mode_step m one h =
        let n = mode_lines graph.mode + length graph.signals + length graph.constants + length graph.vertices + length graph.edges in
        let a = pick-fault (ltb 0 n) _ _ h in
        let e : plus_mode graph m ≡ more = cc in
        subst (OneMore text (records_of graph)) e (plus_mode_lem m (omega (arith, ltb-false 0 n a.0)) one)

    signal_step : (n : Bytes) (w : ℕ) → Fits text (records_of graph) (signal n w) → add_signal graph n w ≡ went more → OneMore text (records_of graph) more
    unfolding add_signal
    signal_step n w p h =
        let a = pick-fault (ltb 0 (length graph.constants + length graph.vertices + length graph.edges)) _ _ h in
        let b = pick-fault (ltb 63 (signal_bits graph + w)) _ _ a.1 in
        let c = pick-fault (is_some (look_up_name n (names_of graph))) _ _ b.1 in
        let e : plus_signal graph n w ≡ more = cc in
        subst (OneMore text (records_of graph)) e (plus_signal_lem n w p.0 p.1 p.2 p.3 c.0 (ltb-false 0 _ a.0) (ltb-false 63 _ b.0))

    constant_step : (n : Bytes) (w : ℕ) → Fits text (records_of graph) (constant n w) → add_constant graph n w ≡ went more → OneMore text (records_of graph) more
    unfolding add_constant
    constant_step n w p h =
        let a = pick-fault (ltb 0 (length graph.vertices + length graph.edges)) _ _ h in
        let b = pick-fault (ltb 6 (constant_bits graph + w)) _ _ a.1 in
        let c = pick-fault (is_some (look_up_name n (names_of graph))) _ _ b.1 in
        let e : plus_constant graph n w ≡ more = cc in
        subst (OneMore text (records_of graph)) e (plus_constant_lem n w p.0 p.1 p.2 p.3 c.0 (ltb-false 0 _ a.0) (ltb-false 6 _ b.0))

    vertex_step : (n : Bytes) → Fits text (records_of graph) (vertex n) → add_vertex graph n ≡ went more → OneMore text (records_of graph) more
    unfolding add_vertex
    vertex_step n p h =
        let a = pick-fault (ltb 0 (length graph.edges)) _ _ h in
        let b = pick-fault (leb 64 (length graph.vertices)) _ _ a.1 in
        let c = pick-fault (is_some (look_up n graph.vertices)) _ _ b.1 in
        let e : plus_vertex graph n ≡ more = cc in
        subst (OneMore text (records_of graph)) e (plus_vertex_lem n p (ltb-false 0 _ a.0) (leb-false 64 _ b.0))

    edge_step : (f t : Bytes) (m : Bool) (a c : Bytes) → Fits text (records_of graph) (edge f t m a c) → add_edge graph f t m a c ≡ went more → OneMore text (records_of graph) more
    unfolding add_edge judge_edge edge_of arc_of signal_bits
    edge_step f t m a c p h =
        let few = pick-fault (leb 128 (length graph.edges)) _ _ h in
        let hf = pick-went (is_some (look_up f graph.vertices)) _ _ few.1 in
        let ht = pick-went (is_some (look_up t graph.vertices)) _ _ hf.1 in
        let u = unless_went (lower (judged_formula (names_of graph) a) (judged_formula (names_of graph) c)) graph (edge_of graph (place_of f graph.vertices) (place_of t graph.vertices) m a c) ht.1 in
        let l = lower-fine (judged_formula (names_of graph) a) (judged_formula (names_of graph) c) u.0 in
        subst (OneMore text (records_of graph)) u.1
        (plus_edge_lem (edge_of graph (place_of f graph.vertices) (place_of t graph.vertices) m a c)
        (record {
          holds = λ b.
              record {
                from-known = known-place f graph.vertices hf.0;
                to-known = known-place t graph.vertices ht.0;
                from_is = refl;
                to_is = refl;
                terminal-is = refl;
                mark-is = p.2;
                antecedent-at = p.0;
                one_tab = next_field text (records_of graph) 4;
                consequent-at = p.1;
                antecedent_sound = formula_sound graph.signals graph.constants g.widths a l.0;
                consequent_sound = formula_sound graph.signals graph.constants g.widths c l.1;
              };
          fields = p.3;
        })
        (leb-false 128 _ few.0))

    record_step : (r : Record) → Fits text (records_of graph) r → ((m : Mode) → r ≡ mode m → mode_lines m ≡ 1) → add graph r ≡ went more → OneMore text (records_of graph) more
    unfolding add
    record_step shapeless p q h = let z : ◌≡◌ {A = ℕ} 0 1 = cc in absurd (omega arith)
    record_step (mode m) p q h = mode_step m (q m refl) h
    record_step (signal n w) p q h = signal_step n w p h
    record_step (constant n w) p q h = constant_step n w p h
    record_step (vertex n) p q h = vertex_step n p h
    record_step (edge f t m a c) p q h = edge_step f t m a c p h

    -- the next line's record
    pub line_step : add graph (record_of (line_of text (records_of graph))) ≡ went more → OneMore text (records_of graph) more
    line_step h = record_step (record_of (line_of text (records_of graph))) (line-fits text (records_of graph)) (λ m e. mode_said (line_of text (records_of graph)) e) h

pub nothing_grown : (text : Bytes) → Grown text nothing
unfolding mode_lines signal_bits constant_bits bits_of
nothing_grown text =
    record {
      signals-few = omega arith;
      constants-few = omega arith;
      vertices-few = omega arith;
      edges_few = omega arith;
      widths = tt;
      differ = λ i j d l k e. absurd (omega arith);
      lines = tt;
      names = held_none text 0;
      vertices = points_none text 0;
      edges = tt;
    }

-- ---- the whole text
pub finished-some : (graph : Graph) {last : Graph} → finished graph ≡ accepted last → (graph ≡ last) × (1 ≤ length graph.vertices)
unfolding finished
finished-some graph {last} h = go (eqb (length graph.vertices) 0) refl h
  where
    go : (t : Bool) → eqb (length graph.vertices) 0 ≡ t → pick t (refused NoVertex) (accepted graph) ≡ accepted last → (graph ≡ last) × (1 ≤ length graph.vertices)
    go true e k = let z : ◌≡◌ {A = ℕ} 0 1 = cc in absurd (omega arith)
    go false e k = let w = eqb-false (length graph.vertices) 0 e in (cc, some (length graph.vertices) w)
      where
        some : (n : ℕ) → (n ≡ 0 → ⊥) → 1 ≤ n
        some zero f = absurd (f refl)
        some (suc n) f = omega arith

-- the graph of all lines, and nothing after the last
record Ends (text : Bytes) (last : Graph) : Type 0 where
  grown : Grown text last
  some-vertex : 1 ≤ length last.vertices
  inside : line_start text (records_of last) ≤ length text
  over : split 10 (drop (line_start text (records_of last)) text) ≡ [] ∷ []

done_sound : (text : Bytes) (graph : Graph) {last : Graph} → Grown text graph → line_start text (records_of graph) ≤ length text → split 10 (drop (line_start text (records_of graph)) text) ≡ [] ∷ [] → finished graph ≡ accepted last → Ends text last
done_sound text graph g i e h = let f = finished-some graph h in subst (Ends text) f.0 (record { grown = g; some-vertex = f.1; inside = i; over = e })

next-line : (text : Bytes) (k : ℕ) (line next : Bytes) (more : List Bytes) → split 10 (drop (line_start text k) text) ≡ line ∷ next ∷ more → (line_of text k ≡ line) × (line_start text (suc k) ≤ length text) × (split 10 (drop (line_start text (suc k)) text) ≡ next ∷ more)
unfolding line_of line_start
next-line text k line next more e = let t = two-left 10 text (line_start text k) line next more e in (t.0, omega (arith, t.1), t.2)

line_sound : (text : Bytes) (graph : Graph) (n : ℕ) (line next : Bytes) (more : List Bytes) {last : Graph} → Grown text graph → split 10 (drop (line_start text (records_of graph)) text) ≡ line ∷ next ∷ more → ((more2 : Graph) → Grown text more2 → line_start text (records_of more2) ≤ length text → split 10 (drop (line_start text (records_of more2)) text) ≡ next ∷ more → read_lines more2 (n + 1) (next ∷ more) ≡ accepted last → Ends text last) → (s : Step) → add graph (record_of line) ≡ s → elim s [ fault f ↦ refused (FaultyLine f n) | went more2 ↦ read_lines more2 (n + 1) (next ∷ more) ] ≡ accepted last → Ends text last
line_sound text graph n line next more g e ih (fault f) a h = let z : ◌≡◌ {A = ℕ} 0 1 = cc in absurd (omega arith)
line_sound text graph n line next more g e ih (went more2) a h =
    let t = next-line text (records_of graph) line next more e in
    let s = line_step text graph g (ap (λ (b : Bytes). add graph (record_of b)) t.0 ∙ a) in
    ih more2 s.grown (rw (s.count, add-one (records_of graph)) t.1) (rw (s.count, add-one (records_of graph)) t.2) h

lines_sound : (text : Bytes) (graph : Graph) (n : ℕ) (ls : List Bytes) {last : Graph} → Grown text graph → line_start text (records_of graph) ≤ length text → split 10 (drop (line_start text (records_of graph)) text) ≡ ls → read_lines graph n ls ≡ accepted last → Ends text last
unfolding read_lines
lines_sound text graph n [] g i e h = absurd (split-some 10 (drop (line_start text (records_of graph)) text) e)
lines_sound text graph n ([] ∷ []) g i e h = done_sound text graph g i e h
lines_sound text graph n ((b ∷ bs) ∷ []) g i e h = let z : ◌≡◌ {A = ℕ} 0 1 = cc in absurd (omega arith)
lines_sound text graph n (line ∷ next ∷ more) g i e h =
    line_sound text graph n line next more g e (λ more2 g2 i2 e2 h2. lines_sound text more2 (n + 1) (next ∷ more) g2 i2 e2 h2) (add graph (record_of line)) refl h

text_sound : (text : Bytes) {graph : Graph} → graph_of text ≡ accepted graph → Ends text graph
unfolding graph_of line_start mode_lines
text_sound text {graph} h = go (ltb 32768 (length text)) h
  where
    go : (t : Bool) → pick t (refused TextTooLong) (read_lines nothing 1 (split 10 text)) ≡ accepted graph → Ends text graph
    go true k = let z : ◌≡◌ {A = ℕ} 0 1 = cc in absurd (omega arith)
    go false k = lines_sound text nothing 1 (split 10 text) (nothing_grown text) (omega arith) refl k

-- ---- by the indices of the arrays
any_default : {A : Type 0} (l : List A) (i : ℕ) (d d2 : A) → i < length l → get_or l i d ≡ get_or l i d2
any_default [] i d d2 h = absurd (omega arith)
any_default (x ∷ l) zero d d2 h = refl
any_default (x ∷ l) (suc i) d d2 h = any_default l i d d2 (omega arith)

held_at : (text : Bytes) (n : ℕ) (xs : List Name) (i : ℕ) (d : Declared) {ns : List Declared} → held text (symbols_of text n 0 xs) ≡ ns → i < length xs → declared_in text (get_or (filled 69 0 (symbols_of text n 0 xs)) i 0) ≡ get_or ns i d
unfolding filled
held_at text n xs i d {ns} h l =
    let ys = symbols_of text n 0 xs in
    let p : i < length ys = rw (symbols-length text n 0 xs) l in
    let q : i < length ns = rw (← h, length-map ys (declared_in text), symbols-length text n 0 xs) l in
    rw (get_or-append ys (replicate (69 - length ys) 0) 0 i p)
    (sym (get_or-map (declared_in text) ys i 0) ∙ rw h (any_default ns i (declared_in text 0) d q))

pointed-at : (text : Bytes) (m n c i : ℕ) (d : Bytes) {ns : List Bytes} → points text (name_places text n c) ≡ ns → i < c → piece_at 10 text (get_or (filled m 0 (name_places text n c)) i 0) ≡ get_or ns i d
unfolding filled
pointed-at text m n c i d {ns} h l =
    let p : i < length (name_places text n c) = rw (places-length text n c) l in
    let q : i < length ns = rw (← h, length-map (name_places text n c) (piece_at 10 text), places-length text n c) l in
    rw (get_or-append (name_places text n c) (replicate (m - length (name_places text n c)) 0) 0 i p)
    (sym (get_or-map (piece_at 10 text) (name_places text n c) i 0) ∙ rw h (any_default ns i (piece_at 10 text 0) d q))

edges_at : (t : Edge → Bool) (text : Bytes) (ss cs : List Name) (vs : List Bytes) (n : ℕ) (es : List Edge) (i : ℕ) (d : Edge) → EdgesSound text ss cs vs n es → i < length es → EdgeSound text ss cs vs (t (get_or es i d)) (get_or (arcs_of t text n es) i no_arc) (get_or es i d)
unfolding arcs_of
edges_at t text ss cs vs n [] i d h l = absurd (omega arith)
edges_at t text ss cs vs n (e ∷ es) zero d h l = h.0.holds (t e)
edges_at t text ss cs vs n (e ∷ es) (suc i) d h l = edges_at t text ss cs vs (n + 1) es i d h.1 (omega arith)

-- where an edge's antecedent stands, in its own line
left_at : (t : Edge → Bool) (text : Bytes) (n : ℕ) (es : List Edge) (i : ℕ) → i < length es → (get_or (arcs_of t text n es) i no_arc).left ≡ line_start text (n + i) + field_start (line_of text (n + i)) 4
unfolding arcs_of arc_of field_at
left_at t text n [] i l = absurd (omega arith)
left_at t text n (e ∷ es) zero l = rw (add-zero n)
left_at t text n (e ∷ es) (suc i) l = let z : n + 1 + i ≡ n + suc i = omega arith in rw (← z) (left_at t text (n + 1) es i (omega arith))

edges-fields : (text : Bytes) (ss cs : List Name) (vs : List Bytes) (n : ℕ) (es : List Edge) (i : ℕ) → EdgesSound text ss cs vs n es → i < length es → EdgeFields (line_of text (n + i))
edges-fields text ss cs vs n [] i h l = absurd (omega arith)
edges-fields text ss cs vs n (e ∷ es) zero h l = rw (add-zero n) h.0.fields
edges-fields text ss cs vs n (e ∷ es) (suc i) h l = let z : n + 1 + i ≡ n + suc i = omega arith in rw (← z) (edges-fields text ss cs vs (n + 1) es i h.1 (omega arith))

-- as there are 69 bits at most, there are 69 names at most
pub names-few : (graph : Graph) → EachWidth (graph.signals ++ graph.constants) → signal_bits graph ≤ 63 → constant_bits graph ≤ 6 → length (graph.signals ++ graph.constants) ≤ 69
unfolding signal_bits constant_bits
names-few graph w s c = omega (arith, bits-some (graph.signals ++ graph.constants) w, bits-append graph.signals graph.constants)

-- THE LAW: the graph of an accepted text is sound
pub sound : (text : Bytes) {graph : Graph} → graph_of text ≡ accepted graph → Sound text graph
unfolding held_of held_as filled signal_bits constant_bits
sound text {graph} h =
    let w = text_sound text h in
    let g = w.grown in
    let first = mode_lines graph.mode in
    let names = graph.signals ++ graph.constants in
    let both : length names ≡ named_of graph = length-append graph.signals graph.constants in
    let few : length names ≤ 69 = names-few graph g.widths g.signals-few g.constants-few in
    let arcs = arcs_of (is_terminal graph) text (first + named_of graph + length graph.vertices) graph.edges in
    let arc_at : (i : ℕ) → i < length graph.edges → (get_or (filled 128 no_arc arcs) i no_arc).left ≡ line_start text (first + named_of graph + length graph.vertices + i) + field_start (line_of text (first + named_of graph + length graph.vertices + i)) 4 =
    (λ i l.
    let p : i < length arcs = rw (arcs-length (is_terminal graph) text (first + named_of graph + length graph.vertices) graph.edges) l in
    rw (get_or-append arcs (replicate (128 - length arcs) no_arc) no_arc i p) (left_at (is_terminal graph) text (first + named_of graph + length graph.vertices) graph.edges i l)) in
    record {
      signals-few = g.signals-few;
      constants-few = g.constants-few;
      names-differ = g.differ;
      all_lines = every-line text (records_of graph) w.inside w.over (omega (arith, w.some-vertex)) ∙ (omega arith);
      symbol-at = λ i l. symbol-is text (records_of graph) w.inside w.over graph.signals graph.constants g.widths first g.lines (omega (arith, both)) (held_of text graph) refl refl refl i (rw both l);
      bits_of_all = sym (all-widths text first graph.signals graph.constants g.widths both);
      some-vertex = w.some-vertex;
      vertices-few = g.vertices-few;
      edges_few = g.edges_few;
      widths = g.widths;
      names-long = filled-length 69 0 (symbols_of text first 0 names) (omega (arith, symbols-length text first 0 names, few));
      points-long = filled-length 64 0 (name_places text (first + named_of graph) (length graph.vertices)) (omega (arith, places-length text (first + named_of graph) (length graph.vertices), g.vertices-few));
      arcs-long = filled-length 128 no_arc arcs (omega (arith, arcs-length (is_terminal graph) text (first + named_of graph + length graph.vertices) graph.edges, g.edges_few));
      names-held = ap (held text) (symbols-first text first 0 names (named_of graph) both) ∙ g.names;
      points-held = ap (points text) (places-first text 64 (first + named_of graph) (length graph.vertices)) ∙ g.vertices;
      name-at = λ i d l. held_at text first names i d g.names (rw both l);
      point_at = λ i d l. pointed-at text 64 (first + named_of graph) (length graph.vertices) i d g.vertices l;
      edge_at = λ i d l.
          let p : i < length arcs = rw (arcs-length (is_terminal graph) text (first + named_of graph + length graph.vertices) graph.edges) l in
          rw (get_or-append arcs (replicate (128 - length arcs) no_arc) no_arc i p)
          (edges_at (is_terminal graph) text graph.signals graph.constants graph.vertices (first + named_of graph + length graph.vertices) graph.edges i d g.edges l);
      edge_at_line = λ i l.
          let n = first + named_of graph + length graph.vertices in
          rw (arc_at i l)
          (edge-behind text (n + i) (edges-fields text graph.signals graph.constants graph.vertices n graph.edges i g.edges l) (line-inside text (records_of graph) w.inside w.over (n + i) (omega arith)));
      own_line = λ i l.
          let n = first + named_of graph + length graph.vertices in
          let z : records_of graph - (n + i) ≡ length graph.edges - i = omega arith in
          rw (arc_at i l)
          (breaks-from text (records_of graph) w.inside w.over (n + i) _ (omega arith) (fits_line_lem (line_of text (n + i)) (edges-fields text graph.signals graph.constants graph.vertices n graph.edges i g.edges l)) ∙ z);
    }

-- a formula's bytes stand within the text
pub formula-inside : (text : Bytes) (p n : ℕ) (ss cs : List Name) (s : Bytes) (x : Expr) → FormulaAt text p n s → FormulaSound ss cs s x → p + n ≤ length text
formula-inside text p n ss cs s x h f =
    omega (arith, h.long, ap length h.bytes, length-take n (drop p text), length-drop p text, words-some f.parse, words_fit_lem s f.parse f.parsed)
