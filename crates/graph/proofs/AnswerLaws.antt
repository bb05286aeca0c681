-- What the reader answers at its end, and what its answer tells. Assumes nothing.
use Rattle.std.specs.Prelude.{Result, Ok, Err}
use Prim.Native.Nat.{ℕ, ◌+◌}
use mathlib.Core.Path.{◌≡◌, refl, ap}
use native.Mathlib.Omega.{arith}
use borrow.Author.Tests.{eq-eqb, ne_eqb}
use lib.ListN.{length}
use Rattle.assertion.specs.Graph.{Bytes, Graph, signal_bits, constant_bits}
use Rattle.graph.specs.Reading.{Outcome, refused, accepted, finished, graph_of}
use Rattle.graph.specs.Held.{held_as, held_of, answer_of, read_of}
use Rattle.graph.specs.declared.Cause.{Cause}
use Rattle.graph.specs.declared.Cause.TheVariants.{NoVertex}
use Rattle.graph.specs.declared.CheckedGraph.{CheckedGraph}
use Rattle.graph.specs.Claims.{Sound}
use Rattle.graph.specs.Private.Steps.{written_of, chosen_in}
use Rattle.graph.proofs.ModeLaws.{chosen}
use Rattle.graph.proofs.HeldLaws.{sound}

module _ (text : Bytes) (g : CheckedGraph) (graph : Graph) (h : g ≡ written_of text graph) where
  counted : g.vertices ≡ length graph.vertices
  unfolding held_as
  counted = ap (λ (x : CheckedGraph). x.vertices) h

  pub finish_none : g.vertices ≡ 0 → Err NoVertex ≡ answer_of text (finished graph)
  unfolding finished answer_of
  finish_none z = rw (← counted, eq-eqb g.vertices 0 z)

  pub finish_some : (g.vertices ≡ 0 → ⊥) → {r : CheckedGraph} → r ≡ chosen_in g → Ok r ≡ answer_of text (finished graph)
  unfolding finished answer_of
  finish_some z e = rw (← counted, ne_eqb g.vertices 0 z, e, chosen text g graph h)

-- ---- for callers of `read_graph`
-- a text that was checked, with the arrays g
pub record CheckedText (text : Bytes) (g : CheckedGraph) : Type 0 where
  pub graph : Graph
  pub accepts : graph_of text ≡ accepted graph
  pub arrays : g ≡ held_of text graph
  pub named-is : g.named ≡ length graph.signals + length graph.constants
  pub signals-are : g.signals ≡ signal_bits graph
  pub constants-are : g.constants ≡ constant_bits graph
  pub vertices-are : g.vertices ≡ length graph.vertices
  pub edges_are : g.edges ≡ length graph.edges
  pub graph_sound : Sound text graph

checked_of_lem : (text : Bytes) (o : Outcome) → graph_of text ≡ o → {r : Result CheckedGraph Cause} {g : CheckedGraph} → r ≡ answer_of text o → r ≡ Ok g → CheckedText text g
unfolding answer_of held_of held_as
checked_of_lem text (accepted graph) o {r} {g} e h =
    let a : g ≡ held_of text graph = cc in
    record {
      graph = graph;
      accepts = o;
      arrays = a;
      named-is = ap (λ (x : CheckedGraph). x.named) a;
      signals-are = ap (λ (x : CheckedGraph). x.signals) a;
      constants-are = ap (λ (x : CheckedGraph). x.constants) a;
      vertices-are = ap (λ (x : CheckedGraph). x.vertices) a;
      edges_are = ap (λ (x : CheckedGraph). x.edges) a;
      graph_sound = sound text o;
    }
checked_of_lem text (refused cause) o e h =
    let z : ◌≡◌ {A = ℕ} 0 1 = cc in
    absurd (omega arith)

refused_of : (text : Bytes) (o : Outcome) {r : Result CheckedGraph Cause} {cause : Cause} → r ≡ answer_of text o → r ≡ Err cause → o ≡ refused cause
unfolding answer_of
refused_of text (accepted graph) e h =
    let z : ◌≡◌ {A = ℕ} 0 1 = cc in
    absurd (omega arith)
refused_of text (refused cause) e h = cc

pub checked-text : (text : Bytes) {r : Result CheckedGraph Cause} {g : CheckedGraph} → r ≡ read_of text → r ≡ Ok g → CheckedText text g
unfolding read_of
checked-text text e h = checked_of_lem text (graph_of text) refl e h

pub refused-text : (text : Bytes) {r : Result CheckedGraph Cause} {cause : Cause} → r ≡ read_of text → r ≡ Err cause → graph_of text ≡ refused cause
unfolding read_of
refused-text text e h = refused_of text (graph_of text) e h
