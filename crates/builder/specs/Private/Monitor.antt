-- The gates of the monitor as the loops store them, and the numbers of its latches. Assumes nothing.
use Rattle.std.specs.Prelude.{Option, Some, None, is_some, ℕ, ◌+◌, ◌*◌, ◌≡◌, Bool, true, false, List, [], ◌∷◌, ◌++◌, length}
use Rattle.assertion.specs.Graph.{Bytes, Edge}
use Rattle.graph.specs.declared.CheckedGraph.{CheckedGraph}
use Rattle.circuit.specs.Gates.{Gate}
use Rattle.circuit.specs.Numbers.{constant_latches, operands}
use Rattle.netlist.specs.declared.literals.Literal.{Literal}
use Rattle.builder.specs.Private.Adding.{Added}
use Rattle.builder.specs.Private.Terms.{Gathers, Ends, mask_gates, every_other, vertices_of, ends_of}
use Rattle.builder.specs.Private.Edges.{edges_in, edges_of, targets, marks}
use Rattle.std.proofs.lemmas.List.Edits.{sets}
use Rattle.builder.specs.declared.Outputs.{Outputs}
use Rattle.builder.specs.declared.layout.Stored.{Stored}
use Rattle.builder.specs.declared.gates.Gates.{Gates}

-- l is the variable of the first edge's happy latch, f the first gate's; ts are the to-vertices of the edges
unfoldable pub gather_of : List ℕ → ℕ → ℕ → ℕ → ℕ → Gathers
gather_of ts vertices edges l f = vertices_of (f + length (mask_gates l (2 * edges))) ts (every_other f edges) (every_other (f + 1) edges) 0 vertices

unfoldable pub gather_gates : List ℕ → ℕ → ℕ → ℕ → ℕ → List Gate
gather_gates ts vertices edges l f = mask_gates l (2 * edges) ++ (gather_of ts vertices edges l f).gates

-- the number of a literal, where there is one
abbrev pub told : Option Literal → Option ℕ
told (Some l) = Some l.0
told None = None

-- the gates of the outputs were stored
pub record EndsMade (s t : Gates) (r : Outputs) (e : Ends) : Type 0 where
  pub gates : Added s t e.gates
  pub accepts : r.accept.0 ≡ e.accept
  pub seconds : told r.second ≡ e.second

-- then the edges, from the literals of the vertices, and the outputs; ms tell the terminal edges
unfoldable pub ends_after : Bool → ℕ → ℕ → List ℕ → List ℕ → List ℕ → List Edge → Ends
ends_after checked s n hs ds ms es = let e = edges_of s n hs ds es in ends_of checked (n + length e.gates) ms e.happy e.condemned

unfoldable pub judge_gates : Bool → ℕ → ℕ → List ℕ → List ℕ → List ℕ → List Edge → List Gate
judge_gates checked s n hs ds ms es = (edges_of s n hs ds es).gates ++ (ends_after checked s n hs ds ms es).gates

pub record JudgeMade (checked : Bool) (before after : Gates) (r : Outputs) (happy condemned : List ℕ) (s : ℕ) (hs ds ms : List ℕ) (es : List Edge) : Type 0 where
  pub gates : Added before after (judge_gates checked s before.next.0 hs ds ms es)
  pub accepts : r.accept.0 ≡ (ends_after checked s before.next.0 hs ds ms es).accept
  pub seconds : told r.second ≡ (ends_after checked s before.next.0 hs ds ms es).second
  pub happies : happy ≡ (edges_of s before.next.0 hs ds es).happy
  pub condemneds : condemned ≡ (edges_of s before.next.0 hs ds es).condemned

-- all gates, the outputs, and the edges' literals
unfoldable pub monitor_gates : Bool → ℕ → ℕ → List Edge → ℕ → ℕ → List Gate
monitor_gates checked s vertices es l f =
    let g = gather_of (targets es) vertices (length es) l f in
    let b = gather_gates (targets es) vertices (length es) l f in
    b ++ judge_gates checked s (f + length b) g.happy g.condemned (marks es) es

unfoldable pub monitor_ends : Bool → ℕ → ℕ → List Edge → ℕ → ℕ → Ends
monitor_ends checked s vertices es l f =
    let g = gather_of (targets es) vertices (length es) l f in
    ends_after checked s (f + length (gather_gates (targets es) vertices (length es) l f)) g.happy g.condemned (marks es) es

unfoldable pub monitor_edges : ℕ → ℕ → List Edge → ℕ → ℕ → Gathers
monitor_edges s vertices es l f =
    let g = gather_of (targets es) vertices (length es) l f in
    edges_of s (f + length (gather_gates (targets es) vertices (length es) l f)) g.happy g.condemned es

pub record MonitorMade (checked : Bool) (before after : Gates) (r : Outputs) (happy condemned : List ℕ) (s vertices : ℕ) (es : List Edge) (l : ℕ) : Type 0 where
  pub gates : Added before after (monitor_gates checked s vertices es l before.next.0)
  pub accepts : r.accept.0 ≡ (monitor_ends checked s vertices es l before.next.0).accept
  pub seconds : told r.second ≡ (monitor_ends checked s vertices es l before.next.0).second
  pub happies : happy ≡ (monitor_edges s vertices es l before.next.0).happy
  pub condemneds : condemned ≡ (monitor_edges s vertices es l before.next.0).condemned

-- the same in a buffer that they begin; f is the variable of the first gate
pub record GatesStored (checked : Bool) (before after : List ℕ) (r : Stored) (happy condemned : List ℕ) (s vertices : ℕ) (es : List Edge) (l f : ℕ) : Type 0 where
  pub count : r.count ≡ length (monitor_gates checked s vertices es l f)
  pub words : after ≡ sets before 0 (operands (monitor_gates checked s vertices es l f))
  pub accepts : r.made.accept.0 ≡ (monitor_ends checked s vertices es l f).accept
  pub seconds : told r.made.second ≡ (monitor_ends checked s vertices es l f).second
  pub happies : happy ≡ (monitor_edges s vertices es l f).happy
  pub condemneds : condemned ≡ (monitor_edges s vertices es l f).condemned

-- next and reset of the edges' latches
abbrev pub edge_pairs : List ℕ → List ℕ → List ℕ
edge_pairs [] ds = []
edge_pairs (h ∷ hs) [] = []
edge_pairs (h ∷ hs) (d ∷ ds) = h ∷ 0 ∷ d ∷ 0 ∷ edge_pairs hs ds

-- the outputs: accept, and checked where it was asked for
abbrev pub outputs_of : ℕ → Option ℕ → List ℕ
outputs_of accept (Some second) = accept ∷ second ∷ []
outputs_of accept None = accept ∷ []

abbrev pub outputs_asked : Bool → ℕ
outputs_asked true = 2
outputs_asked false = 1

-- the header, and all that stands in front of the gates; hs and ds are the edges' literals
abbrev pub header_of : ℕ → ℕ → ℕ → ℕ → List ℕ
header_of inputs latches outputs gates = (inputs + latches + gates) ∷ inputs ∷ latches ∷ outputs ∷ gates ∷ []

unfoldable pub front_of : ℕ → ℕ → ℕ → ℕ → List ℕ → List ℕ → ℕ → Option ℕ → List ℕ
front_of signals constants edges gates hs ds accept second =
    header_of (1 + signals) (constants + 2 * edges) (outputs_asked (is_some second)) gates
    ++ (constant_latches (2 + signals) constants ++ (edge_pairs hs ds ++ outputs_of accept second))

-- ---- of a checked graph: the variables of the first edge's happy latch and of the first gate, the gates,
-- and all numbers
abbrev pub latch_in : CheckedGraph → ℕ
latch_in g = 2 + g.signals + g.constants

abbrev pub gate_in : CheckedGraph → ℕ
gate_in g = latch_in g + 2 * g.edges

unfoldable pub gates_in : Bool → Bytes → CheckedGraph → List Gate
gates_in checked text g = monitor_gates checked g.signals g.vertices (edges_in text g) (latch_in g) (gate_in g)

unfoldable pub front_in : Bool → Bytes → CheckedGraph → List ℕ
front_in checked text g =
    let e = monitor_edges g.signals g.vertices (edges_in text g) (latch_in g) (gate_in g) in
    let o = monitor_ends checked g.signals g.vertices (edges_in text g) (latch_in g) (gate_in g) in
    front_of g.signals g.constants g.edges (length (gates_in checked text g)) e.happy e.condemned o.accept o.second

unfoldable pub numbers_in : Bool → Bytes → CheckedGraph → List ℕ
numbers_in checked text g = front_in checked text g ++ operands (gates_in checked text g)
