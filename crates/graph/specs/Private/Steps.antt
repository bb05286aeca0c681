-- What the private functions of the reader promise. Assumes nothing.
use Rattle.std.specs.Prelude.{Option, Some, None, is_some, Result, Ok, Err, ℕ, ◌+◌, ◌-◌, ◌≤◌, ◌/◌, ◌%◌, ◌≡◌, Bool, true, false, not, cond, ◌&&◌, List, [], ◌∷◌, ◌++◌, map, ltb, leb, eqb, length, take, drop, set}
use Rattle.formula.specs.Classes.{pick}
use Rattle.assertion.specs.Lists.{any}
use Rattle.assertion.specs.Graph.{Bytes, Graph}
use Rattle.assertion.specs.declared.Mode.{Mode}
use Rattle.assertion.specs.declared.Mode.TheVariants.{Unsaid, Terminal, Strong}
use Rattle.graph.specs.Pieces.{end_at, piece_at, Declared, look_up_name, width_in}
use Rattle.graph.specs.Records.{Record, shapeless, mode, signal, constant, vertex, edge, marked, edged, record_of}
use Rattle.graph.specs.Reading.{Step, fault, went, mode_lines, add_mode, names_of, judged_formula, lower, judge_edge, add_edge, add}
use Rattle.graph.specs.Meaning.{IsWidth, EachWidth}
use Rattle.graph.specs.Held.{declared_in, line_start, line_of, field_start, field_at, field_length, name_places, symbol_word, symbols_of, held_as}
use Rattle.graph.specs.declared.Fault.{Fault}
use Rattle.graph.specs.declared.FoundName.{FoundName}
use Rattle.graph.specs.declared.Arc.{Arc}
use Rattle.graph.specs.declared.CheckedGraph.{CheckedGraph}
use Rattle.graph.specs.declared.Shape.{Shape}
use Rattle.graph.specs.declared.Shape.TheVariants as shape

-- ---- names and words
-- the vertices whose names start at some places of a text: each is the last field of its line
abbrev pub points : Bytes → List ℕ → List Bytes
points text starts = map (piece_at 10 text) starts

-- signals and constants, whose names stand in a text
abbrev pub held : Bytes → List ℕ → List Declared
held text symbols = map (declared_in text) symbols

-- the first count of them
abbrev pub listed : Bytes → List ℕ → ℕ → List Declared
listed text symbols count = held text (take count symbols)

-- no name has more than 16 bits
abbrev pub EachNarrow : List Declared → Type 0
EachNarrow [] = Unit {0}
EachNarrow (d ∷ ds) = (d.width ≤ 16) × EachNarrow ds

-- the name that a word below 4096 gives: 16 times its first place, and its length
abbrev pub name_found : List Declared → Bytes → ℕ → Option FoundName
name_found ns s w = look_up_name (take (w % 16) (drop (w / 16) s)) ns

-- a word below 4096 is a name, then come bytes, from 8192 on one bit of a name, and from 16,777,216 on two names;
-- its names are in the list
unfoldable pub word_known : List Declared → Bytes → ℕ → Bool
word_known ns s w =
    pick (leb 4096 w && ltb w 8192) true
    (pick (leb 16777216 w) (pick (is_some (name_found ns s ((w - 16777216) / 4096))) (is_some (name_found ns s (w % 4096))) false)
    (is_some (name_found ns s (w % 4096))))

-- a word's names are known, and fit: a name by itself has one bit, a bit is below its name's width, and two names have
-- equal widths; an unknown name has width 0
unfoldable pub word_fits : List Declared → Bytes → ℕ → Bool
word_fits ns s w =
    pick (leb 4096 w && ltb w 8192) true
    (pick (ltb w 4096) (eqb (width_in (name_found ns s (w % 4096))) 1)
    (pick (ltb w 16777216) (ltb (w / 8192 - 1) (width_in (name_found ns s (w % 4096))))
    (pick (is_some (name_found ns s ((w - 16777216) / 4096)) && is_some (name_found ns s (w % 4096))) (eqb (width_in (name_found ns s ((w - 16777216) / 4096))) (width_in (name_found ns s (w % 4096)))) false)))

-- every word passes a test
unfoldable pub all_words : (ℕ → Bool) → List ℕ → Bool
all_words test [] = true
all_words test (w ∷ ws) = pick (test w) (all_words test ws) false

-- ---- shapes
-- the record of a line by the places of its fields
unfoldable pub viewed : Bytes → Option Shape → Record
viewed line None = shapeless
viewed line (Some (shape.Moded m)) = mode m
viewed line (Some (shape.Signal p n w)) = signal (take n (drop p line)) w
viewed line (Some (shape.Constant p n w)) = constant (take n (drop p line)) w
viewed line (Some (shape.Vertex p)) = vertex (drop p line)
viewed line (Some (shape.Edge f t m a c)) =
    edge (piece_at 9 line f) (piece_at 9 line t) m (piece_at 9 line a) (piece_at 9 line c)

-- a place is the start of field k, in the line
abbrev pub FieldOf : Bytes → ℕ → ℕ → Type 0
FieldOf line k p = (p ≤ length line) × (p ≡ field_start line k)

-- a place and a length are those of field 1
abbrev pub NameOf : Bytes → ℕ → ℕ → Type 0
NameOf line p n = FieldOf line 1 p × (n ≡ field_length line 1)

-- a name is field 1, and the formulas are fields 4 and 5
abbrev pub Placed : Bytes → Option Shape → Type 0
Placed line None = Unit {0}
Placed line (Some (shape.Moded m)) = Unit {0}
Placed line (Some (shape.Signal p n w)) = NameOf line p n × IsWidth w × (n ≤ 15)
Placed line (Some (shape.Constant p n w)) = NameOf line p n × IsWidth w × (n ≤ 15)
Placed line (Some (shape.Vertex p)) = FieldOf line 1 p
Placed line (Some (shape.Edge f t m a c)) = FieldOf line 4 a × FieldOf line 5 c

-- a shape is that of a record, with its places
abbrev pub Shaped : Bytes → Record → Option Shape → Type 0
Shaped line r shape = (viewed line shape ≡ r) × Placed line shape

-- the record of six fields whose others start at these places, with its kind, and without
abbrev pub edged_at : Bytes → ℕ → ℕ → ℕ → ℕ → ℕ → Record
edged_at line f t m a c = edged (piece_at 9 line 0) (piece_at 9 line f) (piece_at 9 line t) (piece_at 9 line m) (piece_at 9 line a) (piece_at 9 line c)

abbrev pub marked_at : Bytes → ℕ → ℕ → ℕ → ℕ → ℕ → Record
marked_at line f t m a c = marked (piece_at 9 line f) (piece_at 9 line t) (piece_at 9 line m) (piece_at 9 line a) (piece_at 9 line c)

-- ---- the arrays and the graph read so far
-- how many signals and constants, and how many records, a graph has
abbrev pub named_of : Graph → ℕ
named_of graph = length graph.signals + length graph.constants

abbrev pub records_of : Graph → ℕ
records_of graph = mode_lines graph.mode + named_of graph + length graph.vertices + length graph.edges

-- the arrays of the lines read so far: until all are read, the edges with the mark are the terminal ones
abbrev pub written_of : Bytes → Graph → CheckedGraph
written_of text graph = held_as (λ e. e.marked) text graph

-- the arrays hold a graph, whose names stand in the text where they say
pub record Holds (text : Bytes) (g : CheckedGraph) (graph : Graph) : Type 0 where
  pub arrays : g ≡ written_of text graph
  pub names : held text (symbols_of text (mode_lines graph.mode) 0 (graph.signals ++ graph.constants)) ≡ names_of graph
  pub widths : EachWidth (graph.signals ++ graph.constants)
  pub vertices : points text (name_places text (mode_lines graph.mode + named_of graph) (length graph.vertices)) ≡ graph.vertices

-- the counts keep to the limits
pub record Kept (g : CheckedGraph) : Type 0 where
  pub named-few : g.named ≤ g.signals + g.constants
  pub signals-few : g.signals ≤ 63
  pub constants-few : g.constants ≤ 6
  pub vertices-few : g.vertices ≤ 64
  pub edges_few : g.edges ≤ 128

-- an edge's formulas in the text, and the lower of their faults
abbrev pub left_of : Bytes → Arc → Bytes
left_of text e = take e.lefts (drop e.left text)

abbrev pub right_of : Bytes → Arc → Bytes
right_of text e = take e.rights (drop e.right text)

abbrev pub judged_arc : Bytes → List Declared → Arc → Result Unit Fault
judged_arc text names e = lower (judged_formula names (left_of text e)) (judged_formula names (right_of text e))

-- an edge by the places of its formulas in its line, which starts at `at`
abbrev pub arc_from : Bytes → ℕ → ℕ → ℕ → Bool → ℕ → ℕ → Arc
arc_from line at from to m a c =
    record {
      from = from;
      to = to;
      terminal = m;
      left = at + a;
      lefts = end_at 9 line a - a;
      right = at + c;
      rights = end_at 9 line c - c;
    }

-- an edge's formulas stand where those of line n do
pub record ArcAt (text : Bytes) (n : ℕ) (e : Arc) : Type 0 where
  pub left : e.left ≡ field_at text n 4
  pub lefts : e.lefts ≡ field_length (line_of text n) 4
  pub right : e.right ≡ field_at text n 5
  pub rights : e.rights ≡ field_length (line_of text n) 5

-- the line of the next record, its start, and the places of an edge's formulas in it
pub record EdgeAt (text line : Bytes) (n at a c : ℕ) : Type 0 where
  pub start : at ≡ line_start text n
  pub bytes : line ≡ line_of text n
  pub antecedent : FieldOf line 4 a
  pub consequent : FieldOf line 5 c

-- what a record's step answers, and the graph that it leaves
pub record Added : Type 0 where
  pub judged : Result Unit Fault
  pub graph : CheckedGraph

-- a fault with the arrays as they were, or the arrays of the graph with the record
abbrev pub faulty_of : CheckedGraph → Fault → Added
faulty_of g f = record { judged = Err f; graph = g }

unfoldable pub added_of : Bytes → CheckedGraph → Step → Added
added_of text g (fault f) = faulty_of g f
added_of text g (went graph) = record { judged = Ok tt; graph = written_of text graph }

-- what a step promises of what it answers and leaves, r, whichever graph the arrays g hold: of a mode
abbrev pub AddsMode : CheckedGraph → Mode → Added → Type 0
AddsMode g m r = (text : Bytes) (graph : Graph) → Holds text g graph → r ≡ added_of text g (add_mode graph m)

-- of a signal or a constant whose name of n bytes is at p
abbrev pub AddsSymbol : Bytes → CheckedGraph → ℕ → ℕ → ℕ → (Graph → Bytes → ℕ → Step) → Added → Type 0
AddsSymbol text g p n w step r =
    (graph : Graph) → Holds text g graph → p ≡ field_at text (records_of graph) 1 → n ≡ field_length (line_of text (records_of graph)) 1
    → r ≡ added_of text g (step graph (take n (drop p text)) w)

-- of a vertex at p
abbrev pub AddsName : Bytes → CheckedGraph → ℕ → (Graph → Bytes → Step) → Added → Type 0
AddsName text g p step r =
    (graph : Graph) → Holds text g graph → p ≡ field_at text (records_of graph) 1 → r ≡ added_of text g (step graph (piece_at 10 text p))

-- of an edge whose vertices are known
abbrev pub AddsArc : Bytes → CheckedGraph → Arc → Added → Type 0
AddsArc text g e r =
    (graph : Graph) → Holds text g graph → ArcAt text (records_of graph) e → r ≡ added_of text g (judge_edge graph e.from e.to e.terminal (left_of text e) (right_of text e))

-- of an edge by the places of its fields in its line
abbrev pub AddsEdge : Bytes → CheckedGraph → Bytes → ℕ → ℕ → ℕ → Bool → ℕ → ℕ → Added → Type 0
AddsEdge text g line at f t m a c r =
    (graph : Graph) → Holds text g graph → EdgeAt text line (records_of graph) at a c → r ≡ added_of text g (add_edge graph (piece_at 9 line f) (piece_at 9 line t) m (piece_at 9 line a) (piece_at 9 line c))

-- of the line that starts at `at`
abbrev pub AddsLine : Bytes → CheckedGraph → ℕ → Added → Type 0
AddsLine text g at r =
    (graph : Graph) → Holds text g graph → at ≡ line_start text (records_of graph) → r ≡ added_of text g (add graph (record_of (line_of text (records_of graph))))

-- ---- the arrays with one more record
abbrev pub with_mode : CheckedGraph → Mode → CheckedGraph
with_mode g m =
    record {
      mode = m;
      named = g.named;
      signals = g.signals;
      constants = g.constants;
      vertices = g.vertices;
      edges = g.edges;
      names = g.names;
      points = g.points;
      arcs = g.arcs;
    }

abbrev pub with_signal : CheckedGraph → ℕ → ℕ → ℕ → CheckedGraph
with_signal g p n w =
    record {
      mode = g.mode;
      named = g.named + 1;
      signals = g.signals + w;
      constants = g.constants;
      vertices = g.vertices;
      edges = g.edges;
      names = set g.names g.named (symbol_word p n g.signals w);
      points = g.points;
      arcs = g.arcs;
    }

abbrev pub with_constant : CheckedGraph → ℕ → ℕ → ℕ → CheckedGraph
with_constant g p n w =
    record {
      mode = g.mode;
      named = g.named + 1;
      signals = g.signals;
      constants = g.constants + w;
      vertices = g.vertices;
      edges = g.edges;
      names = set g.names g.named (symbol_word p n (g.signals + g.constants) w);
      points = g.points;
      arcs = g.arcs;
    }

abbrev pub with_vertex : CheckedGraph → ℕ → CheckedGraph
with_vertex g p =
    record {
      mode = g.mode;
      named = g.named;
      signals = g.signals;
      constants = g.constants;
      vertices = g.vertices + 1;
      edges = g.edges;
      names = g.names;
      points = set g.points g.vertices p;
      arcs = g.arcs;
    }

abbrev pub with_edge : CheckedGraph → Arc → CheckedGraph
with_edge g e =
    record {
      mode = g.mode;
      named = g.named;
      signals = g.signals;
      constants = g.constants;
      vertices = g.vertices;
      edges = g.edges + 1;
      names = g.names;
      points = g.points;
      arcs = set g.arcs g.edges e;
    }

-- ---- the terminal edges chosen, when all lines are read
-- the first n arcs terminal
abbrev pub made_terminal : Arc → Arc
made_terminal a =
    record {
      from = a.from;
      to = a.to;
      terminal = true;
      left = a.left;
      lefts = a.lefts;
      right = a.right;
      rights = a.rights;
    }

abbrev pub all_terminal : ℕ → List Arc → List Arc
all_terminal n arcs = map made_terminal (take n arcs) ++ drop n arcs

abbrev pub with_arcs : CheckedGraph → List Arc → CheckedGraph
with_arcs g arcs =
    record {
      mode = g.mode;
      named = g.named;
      signals = g.signals;
      constants = g.constants;
      vertices = g.vertices;
      edges = g.edges;
      names = g.names;
      points = g.points;
      arcs = arcs;
    }

-- each edge is terminal, whether marked or not
unfoldable pub each_terminal : Mode → List Arc → Bool
each_terminal Unsaid arcs = not (any (λ a. a.terminal) arcs)
each_terminal Terminal arcs = false
each_terminal Strong arcs = true

abbrev pub chosen_in : CheckedGraph → CheckedGraph
chosen_in g = cond (each_terminal g.mode (take g.edges g.arcs)) (with_arcs g (all_terminal g.edges g.arcs)) g
