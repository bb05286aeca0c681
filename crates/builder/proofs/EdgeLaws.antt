-- One edge, one turn of the loop over the edges, the columns of the edges, and the terminal ones. Assumes nothing.
use mathlib.Core.Path.{◌≡◌, refl, sym, ap, ◌∙◌}
use mathlib.Core.Bool.{Bool, true, false}
use mathlib.Core.List.{List, [], ◌∷◌, ◌++◌, map}
use Prim.Native.Nat.{ℕ, suc, ◌+◌, ◌≤◌, ◌<◌}
use native.Mathlib.Numerals.{add-one}
use native.Mathlib.Omega.{arith}
use lib.ListN.{length, get_or, take, drop, length-take, length-map, drop_of_length-le}
use lib.Seq.{drop-cons, get_or-take}
use Rattle.netlist.specs.Literals.{literal_of}
use Rattle.assertion.specs.Graph.{Bytes, Edge, Graph, is_terminal}
use Rattle.graph.specs.Pieces.{Declared}
use Rattle.graph.specs.Held.{no_arc}
use Rattle.graph.specs.declared.Arc.{Arc}
use Rattle.graph.specs.declared.CheckedGraph.{CheckedGraph}
use Rattle.circuit.specs.Build.{formula, edge_piece, token_gates}
use Rattle.builder.specs.Private.Adding.{Splits}
use Rattle.builder.specs.Private.Terms.{tokens_of}
use Rattle.builder.specs.Private.Edges.{names_in, edge_in, edges_from, edges_in, two, edge_of, edges_of, arc_targets, arc_marks, mark_of, targets, marks}

tokens : (m a c h d : ℕ) → token_gates m a c (two h d) ≡ tokens_of m a c h d
unfolding tokens_of
tokens m a c h d =
    let e : m + 2 ≡ suc (suc m) = omega arith in
    let e2 : m + 3 ≡ suc (suc (suc m)) = omega arith in
    rw (e, e2)

-- the formulas of an edge, and then its five gates; k and m are the next variables
module _ (s n : ℕ) (h d : ℕ) (e : Edge) (k m : ℕ) (ek : k ≡ n + length (formula s n e.antecedent).gates) (em : m ≡ k + length (formula s k e.consequent).gates) where
  pub edge-first : Splits (edge_piece s n (two h d) e).gates (formula s n e.antecedent).gates
      ((formula s k e.consequent).gates ++ tokens_of m (formula s n e.antecedent).out (formula s k e.consequent).out h d)
  unfolding edge_piece
  edge-first = record { is = rw (← tokens m (formula s n e.antecedent).out (formula s k e.consequent).out h d, em, ek) }

  pub edge-second : Splits ((formula s k e.consequent).gates ++ tokens_of m (formula s n e.antecedent).out (formula s k e.consequent).out h d)
      (formula s k e.consequent).gates (tokens_of m (formula s n e.antecedent).out (formula s k e.consequent).out h d)
  edge-second = record { is = refl }

  pub edge-outs : (literal_of (m + 1) false ≡ (edge_piece s n (two h d) e).outs.happy) × (literal_of (m + 4) true ≡ (edge_piece s n (two h d) e).outs.condemned)
  unfolding edge_piece
  edge-outs =
      let e1 : m + 1 ≡ suc m = omega arith in
      let e4 : m + 4 ≡ suc (suc (suc (suc m))) = omega arith in
      rw (← ek, ← em, e1, e4) (refl, refl)

-- an edge by its from-vertex's literals
pub edge_at : (s n : ℕ) (hs ds : List ℕ) (text : Bytes) (ns : List Declared) (a : Arc) →
    edge_of s n hs ds (edge_in text ns s a) ≡ edge_piece s n (two (get_or hs a.from 0) (get_or ds a.from 0)) (edge_in text ns s a)
unfolding edge_of edge_in
edge_at s n hs ds text ns a = refl

-- ---- the loop
module _ (s : ℕ) (hs ds : List ℕ) where
  pub edges_step : (n next : ℕ) (es more : List Edge) (e : Edge) → es ≡ e ∷ more → next ≡ n + length (edge_of s n hs ds e).gates →
      Splits (edges_of s n hs ds es).gates (edge_of s n hs ds e).gates (edges_of s next hs ds more).gates
      × ((edges_of s n hs ds es).happy ≡ (edge_of s n hs ds e).outs.happy ∷ (edges_of s next hs ds more).happy)
      × ((edges_of s n hs ds es).condemned ≡ (edge_of s n hs ds e).outs.condemned ∷ (edges_of s next hs ds more).condemned)
  edges_step n next es more e h q = (record { is = rw (h, q) }, rw (h, q), rw (h, q))

  pub edges_end : (n : ℕ) (es : List Edge) → es ≡ [] → ((edges_of s n hs ds es).gates ≡ []) × ((edges_of s n hs ds es).happy ≡ []) × ((edges_of s n hs ds es).condemned ≡ [])
  edges_end n es h = rw h (refl, refl, refl)

-- ---- the arcs from the i-th on
module _ (arcs : List Arc) where
  arc_row : (i : ℕ) → i < length arcs → drop i arcs ≡ get_or arcs i no_arc ∷ drop (i + 1) arcs
  arc_row i h = rw (add-one, drop-cons arcs i no_arc h)

  pub targets-row : (i : ℕ) → i < length arcs → arc_targets (drop i arcs) ≡ (get_or arcs i no_arc).to ∷ arc_targets (drop (i + 1) arcs)
  targets-row i h = rw (arc_row i h)

  pub marks-row : (i : ℕ) → i < length arcs → arc_marks (drop i arcs) ≡ mark_of (get_or arcs i no_arc).terminal ∷ arc_marks (drop (i + 1) arcs)
  marks-row i h = rw (arc_row i h)

  module _ (count : ℕ) (long : count ≤ length arcs) (text : Bytes) (ns : List Declared) (s i : ℕ) where
    pub edges-row : i < count → edges_from text ns s (drop i (take count arcs)) ≡ edge_in text ns s (get_or arcs i no_arc) ∷ edges_from text ns s (drop (i + 1) (take count arcs))
    edges-row h =
        let n : i < length (take count arcs) = rw length-take (omega arith) in
        rw (add-one, drop-cons (take count arcs) i no_arc n, get_or-take count arcs i no_arc h)

    pub edges_none : count ≤ i → edges_from text ns s (drop i (take count arcs)) ≡ []
    edges_none h =
        let n : length (take count arcs) ≤ i = rw length-take (omega arith) in
        rw (drop_of_length-le (take count arcs) n)

-- ---- the columns of the edges
targets-from : (text : Bytes) (ns : List Declared) (s : ℕ) (arcs : List Arc) → targets (edges_from text ns s arcs) ≡ arc_targets arcs
unfolding edge_in
targets-from text ns s [] = refl
targets-from text ns s (a ∷ arcs) = ap (◌∷◌ a.to) (targets-from text ns s arcs)

marks-from : (text : Bytes) (ns : List Declared) (s : ℕ) (arcs : List Arc) → marks (edges_from text ns s arcs) ≡ arc_marks arcs
unfolding edge_in
marks-from text ns s [] = refl
marks-from text ns s (a ∷ arcs) = ap (◌∷◌ (mark_of a.terminal)) (marks-from text ns s arcs)

pub targets_length : (es : List Edge) → length (targets es) ≡ length es
targets_length [] = refl
targets_length (e ∷ es) = ap suc (targets_length es)

pub marks_length : (es : List Edge) → length (marks es) ≡ length es
marks_length [] = refl
marks_length (e ∷ es) = ap suc (marks_length es)

pub from-length : (text : Bytes) (ns : List Declared) (s : ℕ) (arcs : List Arc) → length (edges_from text ns s arcs) ≡ length arcs
from-length text ns s [] = refl
from-length text ns s (a ∷ arcs) = ap suc (from-length text ns s arcs)

module _ (text : Bytes) (g : CheckedGraph) where
  pub targets_in : arc_targets (take g.edges g.arcs) ≡ targets (edges_in text g)
  unfolding edges_in
  targets_in = sym (targets-from text (names_in text g) g.signals (take g.edges g.arcs))

  pub marks_in : arc_marks (take g.edges g.arcs) ≡ marks (edges_in text g)
  unfolding edges_in
  marks_in = sym (marks-from text (names_in text g) g.signals (take g.edges g.arcs))

  pub edges-count : g.edges ≤ length g.arcs → length (edges_in text g) ≡ g.edges
  unfolding edges_in
  edges-count h = from-length text (names_in text g) g.signals (take g.edges g.arcs) ∙ rw length-take (omega arith)

-- ---- the terminal edges
abbrev pub with_mark : Bool → Edge → Edge
with_mark b e =
    record {
      from = e.from;
      to = e.to;
      marked = b;
      antecedent = e.antecedent;
      consequent = e.consequent;
      antecedent_text = e.antecedent_text;
      consequent_text = e.consequent_text;
    }

-- edges of g, marked where they are terminal: no piece but accept and checked sees it
module _ (g : Graph) where
  abbrev pub choose : Edge → Edge
  choose e = with_mark (is_terminal g e) e

  abbrev pub chosen : List Edge → List Edge
  chosen es = map choose es

  pub length-chosen : (es : List Edge) → length (chosen es) ≡ length es
  length-chosen es = length-map es choose

  pub targets-chosen : (es : List Edge) → targets (chosen es) ≡ targets es
  targets-chosen [] = refl
  targets-chosen (e ∷ es) = ap (◌∷◌ e.to) (targets-chosen es)

  pub edges-chosen : (s : ℕ) (hs ds : List ℕ) (es : List Edge) (n : ℕ) → edges_of s n hs ds (chosen es) ≡ edges_of s n hs ds es
  unfolding edge_of edge_piece
  edges-chosen s hs ds [] n = refl
  edges-chosen s hs ds (e ∷ es) n = rw (edges-chosen s hs ds es _)
