-- How long the text is, and what write answers and leaves in each of its three cases, in digits. Assumes nothing.
use Rattle.std.specs.Prelude.{Ok, Err}
use mathlib.Core.Path.{◌≡◌, refl}
use mathlib.Core.Bool.{Bool, true, false, cond}
use mathlib.Core.List.{List, ◌++◌}
use Prim.Native.Nat.{ℕ, ◌+◌, ◌*◌, ◌<◌, ◌≤◌}
use native.Mathlib.Omega.{arith}
use native.Mathlib.Decide.{dec_lt}
use borrow.Author.Tests.{le-leb, lt-leb, ltb-true, ltb-false}
use lib.Dec.{ltb}
use lib.ListN.{length, drop}
use Rattle.buffer_text.specs.Text.{buffer_text}
use Rattle.buffer_text.proofs.SizeLaws.{size_small, size-large}
use Rattle.buffer_graph.specs.declared.Cause.TheVariants.{StrokesOutside, ShortBuffer}
use Rattle.buffer_graph.specs.Write.{is_inside, write_end, write_of}

-- the bytes that are due for k strokes, as the code computes them
abbrev pub due_for : ℕ → ℕ
due_for k = cond (ltb k 10) (100 * k + 72) (107 * k + 7)

pub bytes_due_lem : (k : ℕ) → 1 ≤ k → k ≤ 40 → length (buffer_text k) ≡ due_for k
bytes_due_lem k some few = by (ltb k 10) refl
  where
    by : (b : Bool) → ltb k 10 ≡ b → length (buffer_text k) ≡ cond b (100 * k + 72) (107 * k + 7)
    by true d = size_small k some (ltb-true k 10 d)
    by false d = size-large k (ltb-false k 10 d) few

module _ (strokes : ℕ) (text : List ℕ) where
  not-inside : (1 ≤ strokes → strokes ≤ 40 → ⊥) → is_inside strokes ≡ false
  unfolding is_inside
  not-inside h = elim (dec_lt 0 strokes) [
    | yes s ↦ rw (le-leb 1 strokes s, lt-leb strokes 40 (omega (arith, h s)))
    | no s ↦ rw (lt-leb 1 strokes (omega (arith, s)))
  ]

  pub outside : (1 ≤ strokes → strokes ≤ 40 → ⊥) → write_of strokes text ≡ write_end (Err StrokesOutside) text
  unfolding write_of
  outside h = rw (not-inside h)

  module _ (some : 1 ≤ strokes) (few : strokes ≤ 40) where
    inside : is_inside strokes ≡ true
    unfolding is_inside
    inside = rw (le-leb 1 strokes some, le-leb strokes 40 few)

    pub too_short : length text < due_for strokes → write_of strokes text ≡ write_end (Err ShortBuffer) text
    unfolding write_of
    too_short l = rw (inside, bytes_due_lem strokes some few, lt-leb (due_for strokes) (length text) l)

    pub written : due_for strokes ≤ length text → write_of strokes text ≡ write_end (Ok (due_for strokes)) (buffer_text strokes ++ drop (due_for strokes) text)
    unfolding write_of
    written l = rw (inside, bytes_due_lem strokes some few, le-leb (due_for strokes) (length text) l)
