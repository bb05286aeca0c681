-- What the contract of read_graph claims of an accepted text: its graph keeps to the limits; its names, marks and
-- formulas stand where the checked graph says, an edge's on its own line; its vertices and names are known; and each
-- formula is of the grammar, at most 16 deep, and means what its tree does. And what look_up_name claims. Assumes
-- nothing.
use Rattle.std.specs.Prelude.{ℕ, ◌+◌, ◌-◌, ◌%◌, ◌≤◌, ◌<◌, ◌≡◌, Bool, true, Option, Some, None, cond, eqb, length, get_or, take, drop}
use Prim.Native.Char.{code}
use mathlib.Core.List.{List, [], ◌∷◌, ◌++◌, map, Memᴰ}
use Rattle.text.specs.Lines.{StartsLine}
use Rattle.text.specs.Numbers.{digits}
use Rattle.formula.specs.Classes.{is_name}
use Rattle.formula.specs.Grammar.{Tree, tree, tree_of, depth_of}
use Rattle.assertion.specs.Graph.{Bytes, Expr, Name, Edge, Graph, bits_of, signal_bits, constant_bits, is_terminal}
use Rattle.graph.specs.Pieces.{piece_at, Declared, placed}
use Rattle.graph.specs.Reading.{mode_lines, known, fits, resolved, names_of, accepted, graph_of}
use Rattle.graph.specs.Meaning.{IsWidth, EachWidth, Means}
use Rattle.graph.specs.Held.{symbol_word, declared_in, no_arc, held_of}
use Rattle.graph.specs.declared.FoundName.{FoundName}
use Rattle.graph.specs.declared.Arc.{Arc}
use Rattle.graph.specs.declared.CheckedGraph.{CheckedGraph}

-- "Whoever looks up a name now receives its first place and its width": those of the first that has the name; and where
-- none has, it is unknown
pub record LookUpMeans (n : Bytes) (ds : List Declared) (r : Option FoundName) : Type 0 where
  pub found : (before after : List Declared) (d : Declared) → ds ≡ before ++ (d ∷ after) → d.name ≡ n → ((e : Declared) → Memᴰ e before → e.name ≡ n → ⊥) → r ≡ Some (record { place = d.place; width = d.width })
  pub missing : ((e : Declared) → Memᴰ e ds → e.name ≡ n → ⊥) → r ≡ None

-- the n bytes of the text from p on are x
pub record FormulaAt (text : Bytes) (p n : ℕ) (x : Bytes) : Type 0 where
  pub bytes : take n (drop p text) ≡ x
  pub long : n ≡ length x

-- the bytes s are a formula over signals ss and constants cs, and x is its meaning
pub record FormulaSound (ss cs : List Name) (s : Bytes) (x : Expr) : Type 0 where
  pub parse : Tree
  pub parsed : tree_of s ≡ tree parse
  pub shallow : depth_of parse ≤ 16
  pub names-known : known (placed 0 (ss ++ cs)) s parse ≡ true
  pub widths_fit : fits (placed 0 (ss ++ cs)) s parse ≡ true
  pub resolves : x ≡ resolved (bits_of ss) (placed 0 (ss ++ cs)) s parse
  pub means : Means ss cs s parse x

-- how many LF there are
abbrev pub breaks : Bytes → ℕ
breaks [] = 0
breaks (b ∷ s) = cond (eqb b (code "\n")) 1 0 + breaks s

-- within a line a field ends before its tab
pub record IsField (field : Bytes) : Type 0 where
  pub no_tab : (left right : Bytes) → field ≡ left ++ (code "\t" ∷ right) → ⊥
  pub no_lf : (left right : Bytes) → field ≡ left ++ (code "\n" ∷ right) → ⊥

-- at p, behind `E`, two fields and a mark of one byte, an edge's antecedent begins
pub record EdgeLine (text : Bytes) (p : ℕ) : Type 0 where
  pub before : Bytes
  pub from : Bytes
  pub to : Bytes
  pub mark : ℕ
  pub starts : StartsLine before
  pub from_field : IsField from
  pub to-field : IsField to
  pub bytes : take p text ≡ before ++ (code "E" ∷ code "\t" ∷ (from ++ (code "\t" ∷ (to ++ (code "\t" ∷ mark ∷ code "\t" ∷ [])))))
  pub inside : p ≤ length text

-- ---- signals and constants
-- what stands after a name on its line: nothing, or a tab and its width, "1 to 16; absent means 1, and it has no
-- leading zero"
pub data WidthField : Bytes → ℕ → Type 0 where
  absent : WidthField [] 1
  given : (w : ℕ) → IsWidth w → WidthField (code "\t" ∷ digits w) w

-- the bits of the names of these words
abbrev pub widths_of : List ℕ → ℕ
widths_of [] = 0
widths_of (y ∷ ys) = y % 32 + widths_of ys

-- Name i of a checked graph stands on a line of its own, after the `M` line and the names before it: a signal's where
-- its first bit is below the signals' bits, and then so are the others; else a constant's. Its word says where the
-- name stands, how long it is, how many bits are before it, and its width.
pub record SymbolAt (text : Bytes) (g : CheckedGraph) (i : ℕ) : Type 0 where
  pub kind : ℕ
  pub before : Bytes
  pub name : Bytes
  pub field : Bytes
  pub after : Bytes
  pub width : ℕ
  pub bytes : text ≡ before ++ (kind ∷ code "\t" ∷ (name ++ (field ++ (code "\n" ∷ after))))
  pub starts : StartsLine before
  pub own_line : breaks before ≡ mode_lines g.mode + i
  pub is_name : is_name name ≡ true
  pub width_is : WidthField field width
  pub word : get_or g.names i 0 ≡ symbol_word (length before + 2) (length name) (widths_of (take i g.names)) width
  pub signal_kind : widths_of (take i g.names) < g.signals → (kind ≡ code "S") × (widths_of (take i g.names) + width ≤ g.signals)
  pub constant-kind : g.signals ≤ widths_of (take i g.names) → kind ≡ code "K"

-- an edge between vertices of vs, terminal or not, whose formulas stand in the text where its arc says
pub record EdgeSound (text : Bytes) (ss cs : List Name) (vs : List Bytes) (terminal : Bool) (a : Arc) (e : Edge) : Type 0 where
  pub from-known : e.from < length vs
  pub to-known : e.to < length vs
  pub from_is : a.from ≡ e.from
  pub to_is : a.to ≡ e.to
  pub terminal-is : a.terminal ≡ terminal
  pub mark-is : get_or text (a.left - 2) 0 ≡ cond e.marked (code "t") (code "-")
  pub antecedent-at : FormulaAt text a.left a.lefts e.antecedent_text
  pub one_tab : a.right ≡ a.left + a.lefts + 1
  pub consequent-at : FormulaAt text a.right a.rights e.consequent_text
  pub antecedent_sound : FormulaSound ss cs e.antecedent_text e.antecedent
  pub consequent_sound : FormulaSound ss cs e.consequent_text e.consequent

-- The graph of an accepted text keeps to the limits, and names, vertices and edges stand in the text where the
-- arrays of the checked graph say.
pub record Sound (text : Bytes) (graph : Graph) : Type 0 where
  pub signals-few : signal_bits graph ≤ 63
  pub constants-few : constant_bits graph ≤ 6
  pub widths : EachWidth (graph.signals ++ graph.constants)
  -- signals and constants share one list of names
  pub names-differ : (i j : ℕ) (d : Name) → i < j → j < length (graph.signals ++ graph.constants) → (get_or (graph.signals ++ graph.constants) i d).name ≡ (get_or (graph.signals ++ graph.constants) j d).name → ⊥
  pub all_lines : breaks text ≡ mode_lines graph.mode + length graph.signals + length graph.constants + length graph.vertices + length graph.edges
  pub symbol-at : (i : ℕ) → i < length graph.signals + length graph.constants → SymbolAt text (held_of text graph) i
  pub bits_of_all : signal_bits graph + constant_bits graph ≡ widths_of (take (length graph.signals + length graph.constants) (held_of text graph).names)
  pub some-vertex : 1 ≤ length graph.vertices
  pub vertices-few : length graph.vertices ≤ 64
  pub edges_few : length graph.edges ≤ 128
  pub names-long : length (held_of text graph).names ≡ 69
  pub points-long : length (held_of text graph).points ≡ 64
  pub arcs-long : length (held_of text graph).arcs ≡ 128
  pub names-held : map (declared_in text) (take (length graph.signals + length graph.constants) (held_of text graph).names) ≡ names_of graph
  pub points-held : map (piece_at 10 text) (take (length graph.vertices) (held_of text graph).points) ≡ graph.vertices
  pub name-at : (i : ℕ) (d : Declared) → i < length graph.signals + length graph.constants → declared_in text (get_or (held_of text graph).names i 0) ≡ get_or (names_of graph) i d
  pub point_at : (i : ℕ) (d : Bytes) → i < length graph.vertices → piece_at 10 text (get_or (held_of text graph).points i 0) ≡ get_or graph.vertices i d
  pub edge_at : (i : ℕ) (d : Edge) → i < length graph.edges → EdgeSound text graph.signals graph.constants graph.vertices (is_terminal graph (get_or graph.edges i d)) (get_or (held_of text graph).arcs i no_arc) (get_or graph.edges i d)
  -- the edges are the last lines, in order: an antecedent stands behind `E`, two fields and the mark, and from it on
  -- there are as many LF as edges are left, its own counted
  pub edge_at_line : (i : ℕ) → i < length graph.edges → EdgeLine text (get_or (held_of text graph).arcs i no_arc).left
  pub own_line : (i : ℕ) → i < length graph.edges → breaks (drop (get_or (held_of text graph).arcs i no_arc).left text) ≡ length graph.edges - i

-- THE CLAIM
abbrev pub GraphMeans : Bytes → Type 0
GraphMeans text = (graph : Graph) → graph_of text ≡ accepted graph → Sound text graph
