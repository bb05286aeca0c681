-- The edges of a checked graph as the code holds them, by places in the text, and their gates. Assumes
-- nothing.
use Rattle.std.specs.Prelude.{Ok, ℕ, ◌+◌, ◌≤◌, ◌<◌, ◌≡◌, Bool, cond, List, [], ◌∷◌, ◌++◌, length, get_or, take}
use Rattle.formula.specs.Grammar.{tree_of}
use Rattle.assertion.specs.Graph.{Bytes, Edge, Graph}
use Rattle.graph.specs.Pieces.{Declared}
use Rattle.graph.specs.Reading.{accepted, graph_of, judged_formula, tree_expr}
use Rattle.graph.specs.Held.{no_arc, held_of}
use Rattle.graph.specs.Private.Steps.{listed, left_of, right_of}
use Rattle.graph.specs.declared.Arc.{Arc}
use Rattle.graph.specs.declared.CheckedGraph.{CheckedGraph}
use Rattle.circuit.specs.Build.{Two, EdgePiece, edge_piece}
use Rattle.builder.specs.declared.Both.{Both}
use Rattle.builder.specs.declared.gates.Gates.{Gates}
use Rattle.builder.specs.Private.Adding.{Added}
use Rattle.builder.specs.Private.Machine.{Bounded}
use Rattle.builder.specs.Private.Terms.{Gathers}

-- the text is accepted, and the code holds its graph
pub record Accepted (text : Bytes) (g : CheckedGraph) : Type 0 where
  pub graph : Graph
  pub read : graph_of text ≡ accepted graph
  pub held : g ≡ held_of text graph

-- the signals and then the constants
abbrev pub names_in : Bytes → CheckedGraph → List Declared
names_in text g = listed text g.names g.named

-- an edge whose formulas stand in the text, marked where it is terminal; ns are the names, with s signal bits
unfoldable pub edge_in : Bytes → List Declared → ℕ → Arc → Edge
edge_in text ns s a =
    record {
      from = a.from;
      to = a.to;
      marked = a.terminal;
      antecedent = tree_expr s ns (left_of text a) (tree_of (left_of text a));
      consequent = tree_expr s ns (right_of text a) (tree_of (right_of text a));
      antecedent_text = left_of text a;
      consequent_text = right_of text a;
    }

abbrev pub edges_from : Bytes → List Declared → ℕ → List Arc → List Edge
edges_from text ns s [] = []
edges_from text ns s (a ∷ more) = edge_in text ns s a ∷ edges_from text ns s more

-- all edges of a checked graph
unfoldable pub edges_in : Bytes → CheckedGraph → List Edge
edges_in text g = edges_from text (names_in text g) g.signals (take g.edges g.arcs)

-- the formulas are no refused ones, and the from-vertex is one of the vertices
pub record ArcFine (text : Bytes) (ns : List Declared) (a : Arc) : Type 0 where
  pub left : judged_formula ns (left_of text a) ≡ Ok tt
  pub right : judged_formula ns (right_of text a) ≡ Ok tt

pub record ArcGood (text : Bytes) (ns : List Declared) (vertices : ℕ) (a : Arc) : Type 0 where
  pub from : a.from < vertices
  pub fine : ArcFine text ns a

pub record GraphGood (text : Bytes) (g : CheckedGraph) : Type 0 where
  pub each : (i : ℕ) → i < g.edges → ArcGood text (names_in text g) g.vertices (get_or g.arcs i no_arc)
  pub bounded : Bounded (names_in text g)
  pub named : g.named ≤ g.signals + g.constants
  pub signals : g.signals ≤ 63
  pub constants : g.constants ≤ 6
  pub vertices : g.vertices ≤ 64
  pub edges : g.edges ≤ 128
  pub arcs : length g.arcs ≡ 128

abbrev pub two : ℕ → ℕ → Two
two h d = record { happy = h; condemned = d }

-- the gates of edges, one after another; hs and ds are the literals of the vertices, s are signals
unfoldable pub edge_of : ℕ → ℕ → List ℕ → List ℕ → Edge → EdgePiece
edge_of s n hs ds e = edge_piece s n (two (get_or hs e.from 0) (get_or ds e.from 0)) e

abbrev pub edges_of : ℕ → ℕ → List ℕ → List ℕ → List Edge → Gathers
edges_of s n hs ds [] = record { gates = []; happy = []; condemned = [] }
edges_of s n hs ds (e ∷ es) =
    let p = edge_of s n hs ds e in
    let r = edges_of s (n + length p.gates) hs ds es in
    record { gates = p.gates ++ r.gates; happy = p.outs.happy ∷ r.happy; condemned = p.outs.condemned ∷ r.condemned }

-- the gates of an edge are stored, and these are its literals
pub record EdgeMade (s t : Gates) (b : Both) (p : EdgePiece) : Type 0 where
  pub gates : Added s t p.gates
  pub happy : b.happy.0 ≡ p.outs.happy
  pub condemned : b.condemned.0 ≡ p.outs.condemned

pub record EdgesMade (s t : Gates) (hs ds : List ℕ) (p : Gathers) : Type 0 where
  pub gates : Added s t p.gates
  pub happy : hs ≡ p.happy
  pub condemned : ds ≡ p.condemned

-- to-vertices and marks, 1 for a terminal edge, as columns
abbrev pub mark_of : Bool → ℕ
mark_of b = cond b 1 0

abbrev pub arc_targets : List Arc → List ℕ
arc_targets [] = []
arc_targets (a ∷ more) = a.to ∷ arc_targets more

abbrev pub arc_marks : List Arc → List ℕ
arc_marks [] = []
arc_marks (a ∷ more) = mark_of a.terminal ∷ arc_marks more

abbrev pub targets : List Edge → List ℕ
targets [] = []
targets (e ∷ es) = e.to ∷ targets es

abbrev pub marks : List Edge → List ℕ
marks [] = []
marks (e ∷ es) = mark_of e.marked ∷ marks es
