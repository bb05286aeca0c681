-- Where the graph part of the monitor program's input ends, and what follows it. Assumes nothing.
use mathlib.Core.Path.{◌≡◌, refl, sym, ap, ◌∙◌}
use mathlib.Core.Bool.{Bool, true, false, cond, ◌&&◌}
use mathlib.Core.Logic.{◌⊎◌, inl, inr}
use mathlib.Core.List.{List, [], ◌∷◌}
use Prim.Native.Nat.{ℕ, suc, ◌+◌, ◌≤◌, ◌<◌}
use native.Mathlib.Nat.{add-zero}
use native.Mathlib.Numerals.{add-one}
use native.Mathlib.Omega.{arith}
use borrow.Author.Tests.{eqb-true, eq-eqb}
use lib.Dec.{eqb}
use lib.ListN.{length, get_or, drop, drop_of_length-le}
use lib.Seq.{drop-cons, get_or-drop}
use Rattle.page_text.specs.Parts.{bytes_before, graph_length, trace_part}

-- ---- one byte more, where a loop stands at place i

module _ (starts : Bool) (s : List ℕ) (i : ℕ) where
  before_at : i < length s → bytes_before starts (drop i s)
      ≡ cond (starts && (eqb (get_or s i 0) 84 && eqb (get_or s (i + 1) 0) 10)) 0 (suc (bytes_before (eqb (get_or s i 0) 10) (drop (i + 1) s)))
  unfolding bytes_before
  before_at h =
      let next : get_or (drop (suc i) s) 0 0 ≡ get_or s (suc i) 0 = get_or-drop (suc i) s 0 0 ∙ ap (λ (k : ℕ). get_or s k 0) (add-zero (suc i)) in
      rw (add-one i, drop-cons s i 0 h, next, bytes_before)

  pub mark-here : i < length s → starts ≡ true → get_or s i 0 ≡ 84 → get_or s (i + 1) 0 ≡ 10 → i + bytes_before starts (drop i s) ≡ i
  mark-here h a b c = rw (before_at h, a, eq-eqb (get_or s i 0) 84 b, eq-eqb (get_or s (i + 1) 0) 10 c) (add-zero i)

  pub mark-later : i < length s → (starts ≡ true → get_or s i 0 ≡ 84 → get_or s (i + 1) 0 ≡ 10 → ⊥)
      → i + bytes_before starts (drop i s) ≡ i + 1 + bytes_before (eqb (get_or s i 0) 10) (drop (i + 1) s)
  mark-later h never =
      rw (before_at h)
      (go starts (eqb (get_or s i 0) 84) (eqb (get_or s (i + 1) 0) 10) refl (eqb-true (get_or s i 0) 84) (eqb-true (get_or s (i + 1) 0) 10))
    where
      go : (x y z : Bool) → starts ≡ x → (y ≡ true → get_or s i 0 ≡ 84) → (z ≡ true → get_or s (i + 1) 0 ≡ 10)
          → i + cond (x && (y && z)) 0 (suc (bytes_before (eqb (get_or s i 0) 10) (drop (i + 1) s)))
          ≡ i + 1 + bytes_before (eqb (get_or s i 0) 10) (drop (i + 1) s)
      go true true true a b c = absurd (never a (b refl) (c refl))
      go true true false a b c = omega arith
      go true false z a b c = omega arith
      go false y z a b c = omega arith

  pub mark_nowhere : length s ≤ i → i + bytes_before starts (drop i s) ≡ i
  unfolding bytes_before
  mark_nowhere h = rw (drop_of_length-le s h, bytes_before) (add-zero i)

-- ---- the graph part is within the input

before-within : (starts : Bool) (s : List ℕ) → bytes_before starts s ≤ length s
unfolding bytes_before
before-within starts [] = omega arith
before-within starts (b ∷ s) = go (starts && (eqb b 84 && eqb (get_or s 0 0) 10)) (before-within (eqb b 10) s)
  where
    go : (t : Bool) → bytes_before (eqb b 10) s ≤ length s → cond t 0 (suc (bytes_before (eqb b 10) s)) ≤ suc (length s)
    go true h = omega arith
    go false h = omega arith

pub graph-within : (s : List ℕ) → graph_length s ≤ length s
graph-within s = before-within true s

-- ---- a `T` and an LF follow it, or nothing

two : (s : List ℕ) → eqb (get_or s 0 0) 10 ≡ true → 2 ≤ suc (length s)
two [] h = absurd (omega (arith, eqb-true 0 10 h))
two (b ∷ s) h = omega arith

before-mark : (starts : Bool) (s : List ℕ) → bytes_before starts s < length s → bytes_before starts s + 2 ≤ length s
unfolding bytes_before
before-mark starts [] h = absurd (omega arith)
before-mark starts (b ∷ s) h = go starts (eqb b 84) (eqb (get_or s 0 0) 10) refl (before-mark (eqb b 10) s) h
  where
    go : (x y z : Bool) → eqb (get_or s 0 0) 10 ≡ z → (bytes_before (eqb b 10) s < length s → bytes_before (eqb b 10) s + 2 ≤ length s)
        → cond (x && (y && z)) 0 (suc (bytes_before (eqb b 10) s)) < suc (length s)
        → cond (x && (y && z)) 0 (suc (bytes_before (eqb b 10) s)) + 2 ≤ suc (length s)
    go true true true e ih g = omega (arith, two s e)
    go true true false e ih g = omega (arith, ih (omega arith))
    go true false z e ih g = omega (arith, ih (omega arith))
    go false y z e ih g = omega (arith, ih (omega arith))

-- ---- the trace part starts two places after the graph part, or at the input's end where no `T` stands
pub record TraceAt (s : List ℕ) (at : ℕ) : Type 0 where
  pub within : at ≤ length s
  pub part : drop at s ≡ trace_part s

-- from the two cases in which the code takes it
pub trace-at : {A B : Type 0} (s : List ℕ) {end : ℕ} (at : ℕ) → end ≡ graph_length s → A ⊎ B
    → (A → (end < length s) × (at ≡ end + 2)) → (B → (length s ≤ end) × (at ≡ end)) → TraceAt s at
unfolding trace_part
trace-at s {end} at g (inl w) follows none =
    let h = follows w in
    record { within = omega (arith, before-mark true s (omega arith)); part = rw (h.1, g) }
trace-at s {end} at g (inr w) follows none =
    let h = none w in
    record {
      within = omega (arith, graph-within s);
      part = drop_of_length-le s {i = at} (omega arith) ∙ sym (drop_of_length-le s {i = graph_length s + 2} (omega arith));
    }
