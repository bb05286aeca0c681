-- How many LF stand from a place of a text on. Assumes nothing.
use Prim.Native.Nat.{ℕ, zero, suc, ◌+◌, ◌-◌, ◌≤◌, ◌<◌}
use mathlib.Core.Path.{◌≡◌, refl, sym, ap, ◌∙◌}
use mathlib.Core.List.{[], ◌∷◌}
use native.Mathlib.Omega.{arith}
use lib.ListN.{length, drop, length-take}
use lib.Seq.{drop-drop}
use Rattle.assertion.specs.Graph.{Bytes}
use Rattle.graph.specs.Pieces.{split, up_to, end_at, piece_at}
use Rattle.graph.specs.Held.{line_start, line_of}
use Rattle.graph.specs.Claims.{breaks}
use Rattle.graph.proofs.PieceLaws.{split-cut, up_to-drop}
use Rattle.graph.proofs.SplitLaws.{split-breaks}

-- one for the line at p, and those after it
breaks-line : (text : Bytes) (p : ℕ) → end_at 10 text p < length text → breaks (drop p text) ≡ suc (breaks (drop (end_at 10 text p + 1) text))
breaks-line text p h =
    omega (arith, split-breaks (drop p text), split-breaks (drop (end_at 10 text p + 1) text), ap length (split-cut 10 text p (end_at 10 text p) refl h))

-- as many from a place within a line
breaks-within : (text : Bytes) (n p : ℕ) → p ≤ length (line_of text n) → line_start text (suc n) ≤ length text → breaks (drop (line_start text n + p) text) ≡ breaks (drop (line_start text n) text)
unfolding line_of piece_at line_start end_at
breaks-within text n p h l =
    let at = line_start text n in
    let u = up_to 10 (drop at text) in
    let k : p ≤ u = omega (arith, length-take u (drop at text)) in
    let w : up_to 10 (drop (at + p) text) ≡ u - p = ap (up_to 10) (sym (drop-drop p at text)) ∙ up_to-drop 10 (drop at text) p k in
    let e : at + p + up_to 10 (drop (at + p) text) ≡ at + u = omega (arith, w, k) in
    breaks-line text (at + p) (rw e (omega arith)) ∙ ap (λ (i : ℕ). suc (breaks (drop (i + 1) text))) e ∙ sym (breaks-line text at (omega arith))

-- a text whose lines are all within it, and nothing after the last
module _ (text : Bytes) (lines : ℕ) (inside : line_start text lines ≤ length text) (over : split 10 (drop (line_start text lines) text) ≡ [] ∷ []) where
  started : (k n : ℕ) → n + k ≡ lines → line_start text n ≤ length text
  unfolding line_start end_at
  started zero n e = let z : n ≡ lines = omega arith in rw z inside
  started (suc k) n e = omega (arith, started k (suc n) (omega arith))

  left_over_lem : (k n : ℕ) → n + k ≡ lines → breaks (drop (line_start text n) text) ≡ k
  unfolding line_start
  left_over_lem zero n e =
      let z : n ≡ lines = omega arith in
      rw z (omega (arith, split-breaks (drop (line_start text lines) text), ap length over))
  left_over_lem (suc k) n e =
      let s = started k (suc n) (omega arith) in
      breaks-line text (line_start text n) (omega (arith, s)) ∙ ap suc (left_over_lem k (suc n) (omega arith))

  pub line-inside : (n : ℕ) → n ≤ lines → line_start text n ≤ length text
  line-inside n h = started (lines - n) n (omega arith)

  -- THE LAW
  pub breaks-from : (n p : ℕ) → n < lines → p ≤ length (line_of text n) → breaks (drop (line_start text n + p) text) ≡ lines - n
  breaks-from n p h l =
      breaks-within text n p l (started (lines - suc n) (suc n) (omega arith)) ∙ left_over_lem (lines - n) n (omega arith)
