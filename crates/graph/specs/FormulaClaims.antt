-- What the contract of read_graph claims of an edge's formulas, by what a formula is and what it means, without any
-- reader or look-up: which edges are refused with 7, 8, 9 and 19, and which are taken. Assumes nothing.
use Rattle.std.specs.Prelude.{ℕ, ◌≤◌, ◌<◌, max, ◌≡◌, true, Result, cond, length, get_or, take, drop}
use Prim.Native.Char.{code}
use mathlib.Core.List.{List, [], ◌∷◌, ◌++◌, Memᴰ}
use Rattle.text.specs.Lines.{StartsLine}
use Rattle.formula.specs.Classes.{is_name}
use Rattle.formula.specs.Grammar.{Tree, name, bit_of, alike, bit, not, group, join, depth_of}
use Rattle.formula.specs.Claims.{IsFormula}
use Rattle.assertion.specs.Graph.{Bytes, Run, Expr, Name, Edge, Graph}
use Rattle.graph.specs.Reading.{accepted, graph_of}
use Rattle.graph.specs.Meaning.{Named, Means}
use Rattle.graph.specs.Claims.{IsField}
use Rattle.graph.specs.ModeClaims.{IsMark, RefusedHere}
use Rattle.graph.specs.declared.CheckedGraph.{CheckedGraph}
use Rattle.graph.specs.declared.Cause.{Cause}

-- these bytes are the name of a signal or a constant
pub record Known (ss cs : List Name) (n : Bytes) : Type 0 where
  pub run : Run
  pub width : ℕ
  pub named : Named ss cs n run width

-- so is each name of a tree, as it stands in the field s
abbrev pub AllKnown : List Name → List Name → Bytes → Tree → Type 0
AllKnown ss cs s (name p n) = Known ss cs (take n (drop p s))
AllKnown ss cs s (bit_of p n i) = Known ss cs (take n (drop p s))
AllKnown ss cs s (alike p n q m) = Known ss cs (take n (drop p s)) × Known ss cs (take m (drop q s))
AllKnown ss cs s (bit b) = Unit {0}
AllKnown ss cs s (not e) = AllKnown ss cs s e
AllKnown ss cs s (group e) = AllKnown ss cs s e
AllKnown ss cs s (join b e f) = AllKnown ss cs s e × AllKnown ss cs s f

-- these bytes are the formula of a tree, at most 16 deep
pub record Formed (s : Bytes) (e : Tree) : Type 0 where
  pub is : IsFormula s e
  pub shallow : depth_of e ≤ 16

-- an edge's line without its LF
abbrev pub edge_line : Bytes → Bytes → ℕ → Bytes → Bytes → Bytes
edge_line from to mark a c = code "E" ∷ code "\t" ∷ (from ++ (code "\t" ∷ (to ++ (code "\t" ∷ mark ∷ code "\t" ∷ (a ++ (code "\t" ∷ c))))))

-- after these bytes, which are by themselves the text of a graph g with room for an edge, stands the line of an edge
-- between its vertices, with two fields for its formulas
pub record EdgeNext (text before : Bytes) (g : Graph) (a c : Bytes) : Type 0 where
  pub from : Bytes
  pub to : Bytes
  pub mark : ℕ
  pub after : Bytes
  pub bytes : text ≡ before ++ (edge_line from to mark a c ++ (code "\n" ∷ after))
  pub starts : StartsLine before
  pub read : graph_of before ≡ accepted g
  pub room : length g.edges < 128
  pub from-name : is_name from ≡ true
  pub to-name : is_name to ≡ true
  pub from-vertex : Memᴰ from g.vertices
  pub to-vertex : Memᴰ to g.vertices
  pub is-mark : IsMark mark
  pub antecedent : IsField a
  pub consequent : IsField c

-- the text is the graph g with one edge more, between these vertices, with this mark and these formulas
pub record Taken (text : Bytes) (g : Graph) (from to : Bytes) (mark : ℕ) (a c : Bytes) (x y : Expr) : Type 0 where
  pub edge : Edge
  pub read : graph_of text ≡ accepted (record { mode = g.mode; signals = g.signals; constants = g.constants; vertices = g.vertices; edges = g.edges ++ (edge ∷ []) })
  pub leaves : get_or g.vertices edge.from [] ≡ from
  pub enters : get_or g.vertices edge.to [] ≡ to
  pub marked : mark ≡ cond edge.marked (code "t") (code "-")
  pub antecedent : edge.antecedent ≡ x
  pub consequent : edge.consequent ≡ y
  pub antecedent_is : edge.antecedent_text ≡ a
  pub consequent_is : edge.consequent_text ≡ c

-- THE CLAIM of the answer r to a text, with an edge's line after the text of a graph g
pub record FormulaMeans (text : Bytes) (r : Result CheckedGraph Cause) : Type 0 where
  -- "a formula of any wrong form is 7"
  pub unformed : (before : Bytes) (g : Graph) (a c : Bytes) → EdgeNext text before g a c → ((ea ec : Tree) → IsFormula a ea → IsFormula c ec → ⊥) → length text ≤ 32768 → RefusedHere before 7 r
  -- depth over 16 is 8
  pub deep : (before : Bytes) (g : Graph) (a c : Bytes) (ea ec : Tree) → EdgeNext text before g a c → IsFormula a ea → IsFormula c ec → 16 < max (depth_of ea) (depth_of ec) → length text ≤ 32768 → RefusedHere before 8 r
  -- an unknown name is 9
  pub unknown : (before : Bytes) (g : Graph) (a c : Bytes) (ea ec : Tree) → EdgeNext text before g a c → Formed a ea → Formed c ec → (AllKnown g.signals g.constants a ea × AllKnown g.signals g.constants c ec → ⊥) → length text ≤ 32768 → RefusedHere before 9 r
  -- "unequal widths, a bit beyond the width, or a wide name where one bit is due is 19, with the line of the formula,
  -- after 9": the names are known, and one of the formulas means nothing
  pub widths : (before : Bytes) (g : Graph) (a c : Bytes) (ea ec : Tree) → EdgeNext text before g a c → Formed a ea → Formed c ec → AllKnown g.signals g.constants a ea × AllKnown g.signals g.constants c ec → ((x y : Expr) → Means g.signals g.constants a ea x → Means g.signals g.constants c ec y → ⊥) → length text ≤ 32768 → RefusedHere before 19 r
  -- an edge whose formulas mean something is taken with what they mean
  pub taken : (before : Bytes) (g : Graph) (a c : Bytes) (ea ec : Tree) (n : EdgeNext text before g a c) → Formed a ea → Formed c ec → n.after ≡ [] → (x y : Expr) → Means g.signals g.constants a ea x → Means g.signals g.constants c ec y → length text ≤ 32768 → Taken text g n.from n.to n.mark a c x y
