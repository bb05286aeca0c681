-- What the contract of read_graph claims of the widths of signals and constants, by the bytes of the text: of an
-- accepted text, each with its line, its place and its width; and which of their lines are taken, refused with 2 for
-- the width, with 4 for the bits and with 5 for the name; and that new vertices are taken. Assumes nothing.
use Rattle.std.specs.Prelude.{ℕ, ◌+◌, ◌≤◌, ◌<◌, ◌≡◌, true, Result, Ok, length, take}
use Prim.Native.Char.{code}
use mathlib.Core.List.{[], ◌∷◌, ◌++◌, Memᴰ}
use Rattle.text.specs.Lines.{StartsLine}
use Rattle.text.specs.Numbers.{digits}
use Rattle.formula.specs.Classes.{is_name}
use Rattle.assertion.specs.Graph.{Bytes, Name, Graph, signal_bits, constant_bits}
use Rattle.assertion.specs.declared.Mode.TheVariants.{Unsaid}
use Rattle.graph.specs.Reading.{accepted, graph_of}
use Rattle.graph.specs.Meaning.{IsWidth}
use Rattle.graph.specs.Claims.{IsField, WidthField, widths_of, SymbolAt}
use Rattle.graph.specs.ModeClaims.{RefusedHere, RefusedAfter}
use Rattle.graph.specs.declared.CheckedGraph.{CheckedGraph}
use Rattle.graph.specs.declared.Cause.{Cause}

-- after these bytes stands a line of this kind that goes on after its name: the others follow its LF
pub record LongLine (text before : Bytes) (kind : ℕ) (name rest after : Bytes) : Type 0 where
  pub bytes : text ≡ before ++ (kind ∷ code "\t" ∷ (name ++ (code "\t" ∷ (rest ++ (code "\n" ∷ after)))))
  pub starts : StartsLine before
  pub name-field : IsField name
  pub one_line : (left right : Bytes) → rest ≡ left ++ (code "\n" ∷ right) → ⊥

-- a line that is a vertex
abbrev pub vertex_line : Bytes
vertex_line = code "V" ∷ code "\t" ∷ code "v" ∷ code "\n" ∷ []

-- After these bytes stands a line of this kind, with a name and its width. What stands before has no vertex, and is
-- good: with one it is the text of a graph g.
pub record SymbolNext (text before : Bytes) (kind : ℕ) (name field after : Bytes) (w : ℕ) (g : Graph) : Type 0 where
  pub bytes : text ≡ before ++ (kind ∷ code "\t" ∷ (name ++ (field ++ (code "\n" ∷ after))))
  pub starts : StartsLine before
  pub is_name : is_name name ≡ true
  pub width : WidthField field w
  pub read : graph_of (before ++ vertex_line) ≡ accepted g
  pub first : length g.vertices ≡ 1

-- no signal and no constant of a graph has this name
abbrev pub New : Graph → Bytes → Type 0
New g name = (x : Name) → Memᴰ x (g.signals ++ g.constants) → x.name ≡ name → ⊥

-- THE CLAIM of the answer r to a text
pub record WidthMeans (text : Bytes) (r : Result CheckedGraph Cause) : Type 0 where
  pub symbols : (graph : CheckedGraph) → r ≡ Ok graph → (i : ℕ) → i < graph.named → SymbolAt text graph i
  -- "The totals stay 63 and 6 bits"
  pub bits_of_all : (graph : CheckedGraph) → r ≡ Ok graph → graph.signals + graph.constants ≡ widths_of (take graph.named graph.names)
  pub few-signals : (graph : CheckedGraph) → r ≡ Ok graph → graph.signals ≤ 63
  pub few-constants : (graph : CheckedGraph) → r ≡ Ok graph → graph.constants ≤ 6
  -- "a width field out of shape or range is 2"; a vertex has none
  pub signal_width : (before name rest after : Bytes) → LongLine text before (code "S") name rest after → ((w : ℕ) → IsWidth w → rest ≡ digits w → ⊥) → length text ≤ 32768 → RefusedAfter before 2 r
  pub constant-width : (before name rest after : Bytes) → LongLine text before (code "K") name rest after → ((w : ℕ) → IsWidth w → rest ≡ digits w → ⊥) → length text ≤ 32768 → RefusedAfter before 2 r
  pub vertex-width : (before name rest after : Bytes) → LongLine text before (code "V") name rest after → length text ≤ 32768 → RefusedAfter before 2 r
  -- "a record past them is 4", before the name is looked at; then a name that has come is 5
  pub signal_most : (before name field after : Bytes) (w : ℕ) (g : Graph) → SymbolNext text before (code "S") name field after w g → g.constants ≡ [] → 63 < signal_bits g + w → length text ≤ 32768 → RefusedHere before 4 r
  pub constant_most : (before name field after : Bytes) (w : ℕ) (g : Graph) → SymbolNext text before (code "K") name field after w g → 6 < constant_bits g + w → length text ≤ 32768 → RefusedHere before 4 r
  pub signal_again : (before name field after : Bytes) (w : ℕ) (g : Graph) → SymbolNext text before (code "S") name field after w g → g.constants ≡ [] → signal_bits g + w ≤ 63 → (New g name → ⊥) → length text ≤ 32768 → RefusedHere before 5 r
  pub constant_again : (before name field after : Bytes) (w : ℕ) (g : Graph) → SymbolNext text before (code "K") name field after w g → constant_bits g + w ≤ 6 → (New g name → ⊥) → length text ≤ 32768 → RefusedHere before 5 r
  -- any other is taken, with its width
  pub signal_taken : (before name field : Bytes) (w : ℕ) (g : Graph) → SymbolNext text before (code "S") name field vertex_line w g → g.constants ≡ [] → signal_bits g + w ≤ 63 → New g name → length text ≤ 32768 → graph_of text ≡ accepted (record { mode = g.mode; signals = g.signals ++ (record { name = name; width = w } ∷ []); constants = g.constants; vertices = g.vertices; edges = g.edges })
  pub constant-taken : (before name field : Bytes) (w : ℕ) (g : Graph) → SymbolNext text before (code "K") name field vertex_line w g → constant_bits g + w ≤ 6 → New g name → length text ≤ 32768 → graph_of text ≡ accepted (record { mode = g.mode; signals = g.signals; constants = g.constants ++ (record { name = name; width = w } ∷ []); vertices = g.vertices; edges = g.edges })
  -- a text may begin with a vertex, and after a graph without edges a new vertex is taken
  pub vertex-first : graph_of vertex_line ≡ accepted (record { mode = Unsaid; signals = []; constants = []; vertices = (code "v" ∷ []) ∷ []; edges = [] })
  pub vertex-taken : (before name : Bytes) (g : Graph) → StartsLine before → is_name name ≡ true → graph_of before ≡ accepted g → g.edges ≡ [] → length g.vertices < 64 → (Memᴰ name g.vertices → ⊥) → text ≡ before ++ (code "V" ∷ code "\t" ∷ (name ++ (code "\n" ∷ []))) → length text ≤ 32768 → graph_of text ≡ accepted (record { mode = g.mode; signals = g.signals; constants = g.constants; vertices = g.vertices ++ (name ∷ []); edges = g.edges })
