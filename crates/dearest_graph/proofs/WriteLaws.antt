-- How long the text is, and what write answers and leaves in each of its three cases, in digits. Assumes nothing.
use Rattle.std.specs.Prelude.{Ok, Err}
use mathlib.Core.Path.{◌≡◌, refl}
use mathlib.Core.Bool.{Bool, true, false, ◌&&◌}
use mathlib.Core.List.{List, ◌++◌}
use Prim.Native.Nat.{ℕ, ◌+◌, ◌*◌, ◌<◌, ◌≤◌}
use native.Mathlib.Omega.{arith}
use borrow.Author.Tests.{le-leb, lt-leb, leb-true}
use lib.Dec.{leb}
use lib.ListN.{length, drop}
use Rattle.dearest_text.specs.Dearest.{vertex_line, loop_line, dearest_text}
use Rattle.dearest_text.proofs.DearestLaws.{size}
use Rattle.dearest_graph.specs.declared.Cause.TheVariants.{EdgesOutside, ShortBuffer}
use Rattle.dearest_graph.specs.Write.{is_inside, write_end, write_of}

-- as the code computes it
pub bytes_due_lem : (edges : ℕ) → length (dearest_text edges) ≡ 4 + 12 * edges
unfolding vertex_line loop_line
bytes_due_lem edges = omega (arith, size edges)

module _ (edges : ℕ) (text : List ℕ) where
  not-inside : (1 ≤ edges → edges ≤ 128 → ⊥) → is_inside edges ≡ false
  unfolding is_inside
  not-inside h = by (leb 1 edges) (leb edges 128) refl refl
    where
      by : (a b : Bool) → leb 1 edges ≡ a → leb edges 128 ≡ b → (a && b) ≡ false
      by true true d e = absurd (h (leb-true 1 edges d) (leb-true edges 128 e))
      by true false d e = refl
      by false b d e = refl

  pub outside : (1 ≤ edges → edges ≤ 128 → ⊥) → write_of edges text ≡ write_end (Err EdgesOutside) text
  unfolding write_of
  outside h = rw (not-inside h)

  module _ (some : 1 ≤ edges) (few : edges ≤ 128) where
    inside : is_inside edges ≡ true
    unfolding is_inside
    inside = rw (le-leb 1 edges some, le-leb edges 128 few)

    pub too_short : length text < 4 + 12 * edges → write_of edges text ≡ write_end (Err ShortBuffer) text
    unfolding write_of
    too_short l = rw (inside, lt-leb (length (dearest_text edges)) (length text) (omega (arith, bytes_due_lem edges)))

    pub written : 4 + 12 * edges ≤ length text → write_of edges text ≡ write_end (Ok (4 + 12 * edges)) (dearest_text edges ++ drop (4 + 12 * edges) text)
    unfolding write_of
    written l = rw (inside, bytes_due_lem edges, le-leb (4 + 12 * edges) (length text) l)
