-- The parts by the definition are those that the contract claims, and there are no others. Assumes nothing.
use mathlib.Core.Path.{◌≡◌, refl, sym, ap, ap₂, ◌∙◌}
use mathlib.Core.Bool.{Bool, true, false, cond, ◌&&◌, true≢false}
use mathlib.Core.List.{List, [], ◌∷◌, ◌++◌}
use Prim.Native.Nat.{ℕ, suc, ◌+◌, ◌≤◌}
use native.Mathlib.Nat.{le_antisymm}
use native.Mathlib.Omega.{arith}
use borrow.Author.Tests.{eqb-true, eqb-false, eq-eqb}
use lib.Dec.{eqb}
use lib.ListN.{length, get_or, take, drop, length-take, length-append, drop_of_length-le}
use lib.Seq.{take-length, take_at, drop-append-add}
use Rattle.page_text.specs.Parts.{bytes_before, graph_length, graph_part, trace_part}
use Rattle.text.specs.Lines.{StartsLine}
use Rattle.page_text.specs.Claims.{MarkedAt, Parts}
use Rattle.text.specs.Lines.StartsLine.{first, next}
use Rattle.page_text.specs.Claims.Parts.{cut, none}

-- ---- what is left of an input, of which it is told whether a line starts with it
data Starts (here : Bool) (before : List ℕ) : Type 0 where
  begins : here ≡ true → before ≡ [] → Starts here before
  follows : (lines : List ℕ) → before ≡ lines ++ (10 ∷ []) → Starts here before

record Marked (here : Bool) (s before after : List ℕ) : Type 0 where
  bytes : s ≡ before ++ (84 ∷ (10 ∷ after))
  starts : Starts here before

-- n bytes stand before the first line `T`, or there is none
data Before (here : Bool) (s : List ℕ) (n : ℕ) : Type 0 where
  mark : Marked here s (take n s) (drop (suc (suc n)) s) → ((before after : List ℕ) → Marked here s before after → n ≤ length before) → Before here s n
  nowhere : ((before after : List ℕ) → Marked here s before after → ⊥) → n ≡ length s → Before here s n

-- ---- one byte more in front, which is no line `T`
module _ (here : Bool) (b : ℕ) where
  starts-later : {before : List ℕ} → Starts (eqb b 10) before → Starts here (b ∷ before)
  starts-later (begins h e) = follows [] (ap₂ ◌∷◌ (eqb-true b 10 h) e)
  starts-later (follows lines e) = follows (b ∷ lines) (ap (◌∷◌ b) e)

  starts-after : (x : ℕ) (before : List ℕ) → b ≡ x → Starts here (x ∷ before) → Starts (eqb b 10) before
  starts-after x before e (begins h d) = absurd (omega (arith, ap length d))
  starts-after x before e (follows [] d) = begins (eq-eqb b 10 (e ∙ ap (λ (l : List ℕ). get_or l 0 0) d)) (ap (drop 1) d)
  starts-after x before e (follows (y ∷ lines) d) = follows lines (ap (drop 1) d)

  module _ (s : List ℕ) where
    marked-after : (x : ℕ) (before after : List ℕ) → Marked here (b ∷ s) (x ∷ before) after → Marked (eqb b 10) s before after
    marked-after x before after m =
        record { bytes = ap (drop 1) m.bytes; starts = starts-after x before (ap (λ (l : List ℕ). get_or l 0 0) m.bytes) m.starts }

    module _ (never : here ≡ true → b ≡ 84 → get_or s 0 0 ≡ 10 → ⊥) where
      not-here : (after : List ℕ) → Marked here (b ∷ s) [] after → ⊥
      not-here after m = go m.starts
        where
          go : Starts here [] → ⊥
          go (begins h e) = never h (ap (λ (l : List ℕ). get_or l 0 0) m.bytes) (ap (λ (l : List ℕ). get_or l 1 0) m.bytes)
          go (follows lines e) = omega (arith, length-append lines (10 ∷ []), ap length e)

      later : {n : ℕ} → Before (eqb b 10) s n → Before here (b ∷ s) (suc n)
      later {n} (mark m least) = mark (record { bytes = ap (◌∷◌ b) m.bytes; starts = starts-later m.starts }) least_later
        where
          least_later : (before after : List ℕ) → Marked here (b ∷ s) before after → suc n ≤ length before
          least_later [] after d = absurd (not-here after d)
          least_later (x ∷ before) after d = omega (arith, least before after (marked-after x before after d))
      later {n} (nowhere never-after e) = nowhere never-later (ap suc e)
        where
          never-later : (before after : List ℕ) → Marked here (b ∷ s) before after → ⊥
          never-later [] after d = not-here after d
          never-later (x ∷ before) after d = never-after before after (marked-after x before after d)

-- ---- as the definition counts
lf_first : (s : List ℕ) → get_or s 0 0 ≡ 10 → s ≡ 10 ∷ drop 1 s
lf_first [] h = absurd (omega arith)
lf_first (x ∷ s) h = ap (λ (y : ℕ). y ∷ s) h

before-first : (here : Bool) (s : List ℕ) → Before here s (bytes_before here s)
unfolding bytes_before
before-first here [] = nowhere (λ before after m. omega (arith, length-append before (84 ∷ (10 ∷ after)), ap length m.bytes)) refl
before-first here (b ∷ s) = go here (eqb b 84) (eqb (get_or s 0 0) 10) refl refl refl (before-first (eqb b 10) s)
  where
    go : (x y z : Bool) → here ≡ x → eqb b 84 ≡ y → eqb (get_or s 0 0) 10 ≡ z → Before (eqb b 10) s (bytes_before (eqb b 10) s)
        → Before here (b ∷ s) (cond (x && (y && z)) 0 (suc (bytes_before (eqb b 10) s)))
    go true true true e t l r =
        mark
        (record {
          bytes = ap (λ (x : ℕ). x ∷ s) (eqb-true b 84 t) ∙ ap (◌∷◌ 84) (lf_first s (eqb-true (get_or s 0 0) 10 l));
          starts = begins e refl;
        })
        (λ before after m. omega arith)
    go true true false e t l r = later here b s (λ h u v. eqb-false (get_or s 0 0) 10 l v) r
    go true false z e t l r = later here b s (λ h u v. eqb-false b 84 t u) r
    go false y z e t l r = later here b s (λ h u v. true≢false (sym h ∙ e)) r

-- ---- at the start of the input a line starts
as_marked : {s before after : List ℕ} → MarkedAt s before after → Marked true s before after
as_marked {s} {before} {after} m = record { bytes = m.bytes; starts = go m.starts }
  where
    go : StartsLine before → Starts true before
    go (first e) = begins refl e
    go (next lines e) = follows lines e

marked_at_lem : {s before after : List ℕ} → Marked true s before after → MarkedAt s before after
marked_at_lem {s} {before} {after} m = record { bytes = m.bytes; starts = go m.starts }
  where
    go : Starts true before → StartsLine before
    go (begins h e) = first e
    go (follows lines e) = next lines e

add-two : (n : ℕ) → n + 2 ≡ suc (suc n)
add-two n = omega arith

module _ (s : List ℕ) where
  -- by the length of the graph part, as graph_length answers it
  pub length-parts : {n : ℕ} → n ≡ graph_length s → Parts s (take n s) (drop (n + 2) s)
  length-parts {n} e = rw (add-two n) (go (rw e (before-first true s)))
    where
      go : Before true s n → Parts s (take n s) (drop (suc (suc n)) s)
      go (mark m least) = cut (marked_at_lem m) (λ before after d. omega (arith, length-take n s, least before after (as_marked d)))
      go (nowhere never d) =
          none (λ before after m. never before after (as_marked m)) (ap (λ (k : ℕ). take k s) d ∙ take-length s)
          (drop_of_length-le s {i = suc (suc n)} (omega arith))

  -- and by the definitions
  pub parts_are : Parts s (graph_part s) (trace_part s)
  unfolding graph_part trace_part
  parts_are = length-parts refl

-- ---- no others
abbrev marked : List ℕ → List ℕ
marked after = 84 ∷ (10 ∷ after)

pub parts_unique : {s graph trace graph' trace' : List ℕ} → Parts s graph trace → Parts s graph' trace' → (graph ≡ graph') × (trace ≡ trace')
parts_unique {s} {graph} {trace} {graph'} {trace'} (cut m least) (cut m' least') =
    let long : length graph ≡ length graph' = le_antisymm (least graph' trace' m') (least' graph trace m) in
    let all : graph ++ marked trace ≡ graph' ++ marked trace' = sym m.bytes ∙ m'.bytes in (
      sym (take_at graph (marked trace) (length graph') long) ∙ ap (take (length graph')) all ∙ take_at graph' (marked trace') (length graph') refl,
      sym (drop-append-add graph (marked trace) 2) ∙ ap₂ (λ (k : ℕ). drop (k + 2)) long all ∙ drop-append-add graph' (marked trace') 2,
    )
parts_unique {graph = graph} {trace = trace} (cut m least) (none never e d) = absurd (never graph trace m)
parts_unique {graph' = graph} {trace' = trace} (none never e d) (cut m least) = absurd (never graph trace m)
parts_unique (none never e d) (none never' e' d') = (e ∙ sym e', d ∙ sym d')
