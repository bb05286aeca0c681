-- Laws of the line of a vertex after a text that is accepted: with no edge, with room and with a new name it is taken.
-- Byte 9 is a tab, 10 LF, 86 `V`. Assumes nothing.
use Rattle.std.specs.Prelude.{is_some}
use Prim.Native.Nat.{suc, ◌≤◌, ◌<◌}
use mathlib.Core.Path.{◌≡◌, refl, ap, ◌∙◌}
use mathlib.Core.Bool.{Bool, true, false}
use mathlib.Core.List.{List, [], ◌∷◌, ◌++◌, Memᴰ}
use native.Mathlib.Omega.{arith}
use borrow.Author.Tests.{le-ltb, lt-leb}
use lib.ListN.{length}
use Rattle.text.specs.Lines.{StartsLine}
use Rattle.formula.specs.Classes.{is_name}
use Rattle.assertion.specs.Graph.{Bytes, Graph}
use Rattle.graph.specs.Pieces.{same, place_of, look_up}
use Rattle.graph.specs.Records.{vertex, named, record_of}
use Rattle.graph.specs.Reading.{went, add_vertex, add, accepted, graph_of}
use Rattle.graph.proofs.SplitLaws.{split-whole, same_equal}
use Rattle.graph.proofs.ArrayLaws.{one_more_lem}
use Rattle.graph.proofs.HeldLaws.{plus_vertex}
use Rattle.graph.proofs.WidthTextLaws.{one-without}
use Rattle.graph.proofs.SymbolTextLaws.{name-field, line-named}
use Rattle.graph.proofs.FormulaTextLaws.{line_taken}

-- a name that no vertex of a list has is not found in it
place-past : (n : Bytes) (vs : List Bytes) → (Memᴰ n vs → ⊥) → length vs ≤ place_of n vs
unfolding place_of
place-past n [] h = omega arith
place-past n (v ∷ vs) h = by (same n v) refl (place-past n vs (λ m. h (Memᴰ.tail m)))
  where
    by : (t : Bool) → same n v ≡ t → length vs ≤ place_of n vs → suc (length vs) ≤ elim t [ true ↦ 0 | false ↦ suc (place_of n vs) ]
    by true e k = absurd (h (Memᴰ.head (same_equal n v e)))
    by false e k = omega (arith, k)

vertex-unknown : (n : Bytes) (vs : List Bytes) → (Memᴰ n vs → ⊥) → is_some (look_up n vs) ≡ false
unfolding look_up
vertex-unknown n vs h = rw (le-ltb (place_of n vs) (length vs) (place-past n vs h), is_some)

-- the line of a vertex, and its step
pub vertex_line_lem : (name : Bytes) → is_name name ≡ true → record_of (86 ∷ 9 ∷ name) ≡ vertex name
unfolding named same
vertex_line_lem name h = line-named 86 (omega arith) name h ∙ rw h

pub vertex-added : (g : Graph) (name : Bytes) → g.edges ≡ [] → length g.vertices < 64 → (Memᴰ name g.vertices → ⊥) → add g (vertex name) ≡ went (plus_vertex g name)
unfolding add add_vertex
vertex-added g name none room new = rw (none, lt-leb 64 (length g.vertices) room, vertex-unknown name g.vertices new)

-- THE LAW
pub vertex-taken : (text before name : Bytes) (g : Graph) → StartsLine before → is_name name ≡ true → graph_of before ≡ accepted g → g.edges ≡ [] → length g.vertices < 64 → (Memᴰ name g.vertices → ⊥) → text ≡ before ++ (86 ∷ 9 ∷ (name ++ (10 ∷ []))) → length text ≤ 32768 → graph_of text ≡ accepted (plus_vertex g name)
vertex-taken text before name g starts is_name read none room new bytes-are short =
    line_taken (86 ∷ 9 ∷ name) [] starts bytes-are read
    (split-whole 10 (86 ∷ 9 ∷ name) (one-without (λ e. omega arith) (one-without (λ e. omega arith) (name-field name is_name).no_lf)))
    refl
    (ap (add g) (vertex_line_lem name is_name) ∙ vertex-added g name none room new)
    (omega (arith, one_more_lem g.vertices name))
    short
