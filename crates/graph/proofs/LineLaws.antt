-- Laws of one line: what its record adds, by the places of its fields. Assumes nothing.
use Rattle.std.specs.Prelude.{Option, Some, None}
use Prim.Native.Nat.{ℕ, ◌+◌, ◌-◌, ◌≤◌}
use mathlib.Core.Path.{◌≡◌, sym, ap, subst, ◌∙◌}
use mathlib.Core.Bool.{Bool}
use native.Mathlib.Omega.{arith}
use lib.ListN.{length, take, drop, length-drop}
use lib.Seq.{length-take-le}
use Rattle.assertion.specs.Graph.{Bytes, Graph}
use Rattle.assertion.specs.declared.Mode.{Mode}
use Rattle.graph.specs.Pieces.{end_at, piece_at}
use Rattle.graph.specs.Records.{record_of}
use Rattle.graph.specs.Reading.{add, add_mode, add_signal, add_constant, add_vertex, add_edge}
use Rattle.graph.specs.Held.{line_start, line_of, field_start, field_at, field_length}
use Rattle.graph.specs.Private.Steps.{viewed, FieldOf, NameOf, Placed, EdgeAt, faulty_of, added_of}
use Rattle.graph.specs.declared.Fault.TheVariants.{WrongShape}
use Rattle.graph.specs.declared.CheckedGraph.{CheckedGraph}
use Rattle.graph.specs.declared.Shape.{Shape}
use Rattle.graph.specs.declared.Shape.TheVariants.{Moded, Signal, Constant, Vertex, Edge}
use Rattle.graph.proofs.PieceLaws.{piece_take, piece_in, part_in}
use Rattle.graph.proofs.EdgeLaws.{take_self, up_to-inside}

pub part_length : (text : Bytes) (at end : ℕ) → at ≤ end → end ≤ length text → length (take (end - at) (drop at text)) ≡ end - at
part_length text at end h l = length-take-le (end - at) (drop at text) (omega (arith, length-drop at text))

module _ (text : Bytes) (graph : Graph) (n at end : ℕ) (ha : at ≡ line_start text n) (he : end ≡ end_at 10 text at) (shape : Option Shape) (hs : (viewed (take (end - at) (drop at text)) shape ≡ record_of (take (end - at) (drop at text))) × Placed (take (end - at) (drop at text)) shape) where
  abbrev line : Bytes
  line = take (end - at) (drop at text)

  is-line : line_of text n ≡ line
  unfolding line_of
  is-line = rw (← ha) (piece_take 10 text at end he)

  is_record : {x : Option Shape} → shape ≡ x → record_of (line_of text n) ≡ viewed line x
  is_record {x} e = ap record_of is-line ∙ sym hs.0 ∙ ap (viewed line) e

  is_placed_lem : {x : Option Shape} → shape ≡ x → Placed line x
  is_placed_lem e = subst (Placed line) e hs.1

  -- a name: its place, its length, and its bytes
  pub name-at : (p : ℕ) → FieldOf line 1 p → at + p ≡ field_at text n 1
  unfolding field_at
  name-at p f = rw (is-line, ← ha, ← f.1)

  pub name-long : (p j : ℕ) → NameOf line p j → j ≡ field_length (line_of text n) 1
  name-long p j f = f.1 ∙ ap (λ (l : Bytes). field_length l 1) (sym is-line)

  part-is : (p j : ℕ) → NameOf line p j → take j (drop (at + p) text) ≡ take j (drop p line)
  unfolding field_length
  part-is p j f =
      let few : j ≤ length line - p = omega (arith, f.1, f.0.1, up_to-inside 9 (drop (field_start line 1) line), length-drop (field_start line 1) line) in
      part_in text line at p j (take_self (end - at) (drop at text)) few

  name-is : (p : ℕ) → FieldOf line 1 p → piece_at 10 text (at + p) ≡ drop p line
  name-is p f =
      let w : piece_at 10 text at ≡ line = piece_take 10 text at end he in
      let i : p ≤ length (piece_at 10 text at) = rw w f.0 in
      sym (piece_in 10 text at p i) ∙ ap (drop p) w

  pub line-wrong : (g : CheckedGraph) → shape ≡ None → faulty_of g WrongShape ≡ added_of text g (add graph (record_of (line_of text n)))
  unfolding add viewed added_of
  line-wrong g e = rw (is_record e)

  pub line-mode : (m : Mode) → shape ≡ Some (Moded m) → add_mode graph m ≡ add graph (record_of (line_of text n))
  unfolding add viewed
  line-mode m e = sym (ap (add graph) (is_record e))

  module _ (p j w : ℕ) where
    pub line_signal : shape ≡ Some (Signal p j w) → add_signal graph (take j (drop (at + p) text)) w ≡ add graph (record_of (line_of text n))
    unfolding add viewed
    line_signal e = ap (λ (x : Bytes). add_signal graph x w) (part-is p j (is_placed_lem e).0) ∙ sym (ap (add graph) (is_record e))

    pub line-constant : shape ≡ Some (Constant p j w) → add_constant graph (take j (drop (at + p) text)) w ≡ add graph (record_of (line_of text n))
    unfolding add viewed
    line-constant e = ap (λ (x : Bytes). add_constant graph x w) (part-is p j (is_placed_lem e).0) ∙ sym (ap (add graph) (is_record e))

  pub line-vertex : (p : ℕ) → shape ≡ Some (Vertex p) → add_vertex graph (piece_at 10 text (at + p)) ≡ add graph (record_of (line_of text n))
  unfolding add viewed
  line-vertex p e = ap (add_vertex graph) (name-is p (is_placed_lem e)) ∙ sym (ap (add graph) (is_record e))

  module _ (f t : ℕ) (m : Bool) (a c : ℕ) (e : shape ≡ Some (Edge f t m a c)) where
    pub line-edge : add_edge graph (piece_at 9 line f) (piece_at 9 line t) m (piece_at 9 line a) (piece_at 9 line c) ≡ add graph (record_of (line_of text n))
    unfolding add viewed
    line-edge = sym (ap (add graph) (is_record e))

    pub edge_at : EdgeAt text line n at a c
    edge_at = let p = is_placed_lem e in record { start = ha; bytes = sym is-line; antecedent = p.0; consequent = p.1 }
