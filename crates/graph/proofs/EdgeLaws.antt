-- Laws of an edge's formulas by their places in the text. Assumes nothing.
use Prim.Native.Nat.{ℕ, zero, suc, ◌+◌, ◌-◌, ◌≤◌}
use mathlib.Core.Path.{◌≡◌, refl, ap, ◌∙◌}
use mathlib.Core.Bool.{Bool, true, false}
use mathlib.Core.List.{[], ◌∷◌}
use native.Mathlib.Omega.{arith}
use lib.Dec.{eqb}
use lib.ListN.{length, take, drop, length-drop}
use Rattle.assertion.specs.Graph.{Bytes, Graph}
use Rattle.graph.specs.Pieces.{up_to, end_at, piece_at}
use Rattle.graph.specs.Reading.{judge_edge}
use Rattle.graph.specs.Held.{line_start, line_of, field_at, field_length}
use Rattle.graph.specs.Private.Steps.{ArcAt, EdgeAt, arc_from}
use Rattle.graph.specs.declared.Arc.{Arc}
use Rattle.graph.proofs.PieceLaws.{part_in}

pub take_self : (n : ℕ) (l : Bytes) → take n l ≡ take (length (take n l)) l
take_self zero l = refl
take_self (suc n) [] = refl
take_self (suc n) (x ∷ l) = ap (λ (m : Bytes). x ∷ m) (take_self n l)

pub up_to-inside : (b : ℕ) (s : Bytes) → up_to b s ≤ length s
unfolding up_to
up_to-inside b [] = omega arith
up_to-inside b (c ∷ s) = go (eqb c b) refl (up_to-inside b s)
  where
    go : (t : Bool) → eqb c b ≡ t → up_to b s ≤ length s → up_to b (c ∷ s) ≤ suc (length s)
    go true e ih = let u : up_to b (c ∷ s) ≡ 0 = rw (up_to, e) in omega arith
    go false e ih = let u : up_to b (c ∷ s) ≡ suc (up_to b s) = rw (up_to, e) in omega arith

-- a field of a line, as a part of the text
pub field_in : (text : Bytes) (n p : ℕ) → take (up_to 9 (drop p (line_of text n))) (drop (line_start text n + p) text) ≡ piece_at 9 (line_of text n) p
unfolding line_of piece_at
field_in text n p =
    let line = take (up_to 10 (drop (line_start text n) text)) (drop (line_start text n) text) in
    let few : up_to 9 (drop p line) ≤ length line - p = omega (arith, up_to-inside 9 (drop p line), length-drop p line) in
    part_in text line (line_start text n) p (up_to 9 (drop p line)) (take_self (up_to 10 (drop (line_start text n) text)) (drop (line_start text n) text)) few

module _ (text line : Bytes) (n at a c : ℕ) (h : EdgeAt text line n at a c) {e : Arc} {from to : ℕ} {marked : Bool} (w : e ≡ arc_from line at from to marked a c) where
  long : (p : ℕ) → end_at 9 line p - p ≡ up_to 9 (drop p line)
  unfolding end_at
  long p = omega arith

  pub arc_at : ArcAt text n e
  unfolding field_at field_length
  arc_at =
      rw w
      (record {
        left = rw (h.start, ← h.bytes) (ap (λ (p : ℕ). line_start text n + p) h.antecedent.1);
        lefts = rw (← h.bytes) (long a ∙ ap (λ (p : ℕ). up_to 9 (drop p line)) h.antecedent.1);
        right = rw (h.start, ← h.bytes) (ap (λ (p : ℕ). line_start text n + p) h.consequent.1);
        rights = rw (← h.bytes) (long c ∙ ap (λ (p : ℕ). up_to 9 (drop p line)) h.consequent.1);
      })

  field_is : (p : ℕ) → take (end_at 9 line p - p) (drop (at + p) text) ≡ piece_at 9 line p
  field_is p = rw (long p, h.start, h.bytes) (field_in text n p)

  pub edge-judged : (graph : Graph) → judge_edge graph e.from e.to e.terminal (take e.lefts (drop e.left text)) (take e.rights (drop e.right text)) ≡ judge_edge graph from to marked (piece_at 9 line a) (piece_at 9 line c)
  edge-judged graph = rw (w, field_is a, field_is c)
