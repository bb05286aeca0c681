-- Laws of parts as the code takes them: from k widths on to one width further. Assumes nothing.
use mathlib.Core.Path.{◌≡◌, refl, sym, ap, ◌∙◌}
use mathlib.Core.List.{List, ◌++◌}
use Prim.Native.Nat.{ℕ, ◌+◌, ◌-◌, ◌*◌}
use native.Mathlib.Omega.{arith}
use lib.ListN.{take, drop, take-append-drop}
use lib.Seq.{drop-drop}
use Rattle.simulator.specs.declared.outcome.Stepped.{Stepped}
use Rattle.simulator.specs.Step.{StepEnd, step_end, step_of}
use Rattle.calls.specs.declared.tally.Tally.{Tally}
use Rattle.bench_turns.specs.Parts.{width, part_of, with_part}

-- part k of xs begins at `at` and ends before `end`
module _ {A : Type 0} (k : ℕ) (xs : List A) (at end : ℕ) (begins : at ≡ k * width xs) (ends : end ≡ k * width xs + width xs) where
  one_width : end - at ≡ width xs
  one_width = omega arith

  -- what is lent
  pub part-is : take (end - at) (drop at xs) ≡ part_of k xs
  unfolding part_of
  part-is = rw (one_width, begins) refl

  -- what comes back
  pub back_is : (p : List A) → take at xs ++ (p ++ drop (end - at) (drop at xs)) ≡ take (k * width xs) xs ++ (p ++ drop (k * width xs + width xs) xs)
  back_is p = rw (one_width, begins, drop-drop (width xs) (k * width xs) xs) refl

module _ (k : ℕ) (xs : List ℕ) where
  -- a part that comes back as it was
  pub with_own : with_part k (part_of k xs) xs ≡ xs
  unfolding with_part part_of
  with_own =
      ap (λ (z : List ℕ). take (k * width xs) xs ++ (take (width xs) (drop (k * width xs) xs) ++ z)) (sym (drop-drop (width xs) (k * width xs) xs))
      ∙ ap (λ (z : List ℕ). take (k * width xs) xs ++ z) (take-append-drop (width xs) (drop (k * width xs) xs))
      ∙ take-append-drop (k * width xs) xs

  pub back_with : (at end : ℕ) → at ≡ k * width xs → end ≡ k * width xs + width xs → (p : List ℕ) → take at xs ++ (p ++ drop (end - at) (drop at xs)) ≡ with_part k p xs
  unfolding with_part
  back_with at end b e p = back_is k xs at end b e p

-- a step on the part
pub stepped-part : (net cycle latches values : List ℕ) (t : Tally) (k at end : ℕ) → at ≡ k * width latches → end ≡ k * width latches + width latches → (r : Stepped) (l v : List ℕ)
    → step_end r l v ≡ step_of net cycle (take (end - at) (drop at latches)) values t
    → (r ≡ (step_of net cycle (part_of k latches) values t).answer)
    × (take at latches ++ (l ++ drop (end - at) (drop at latches)) ≡ with_part k (step_of net cycle (part_of k latches) values t).latches latches)
    × (v ≡ (step_of net cycle (part_of k latches) values t).values)
stepped-part net cycle latches values t k at end b n r l v e =
    let f : step_end r l v ≡ step_of net cycle (part_of k latches) values t = e ∙ ap (λ (z : List ℕ). step_of net cycle z values t) (part-is k latches at end b n) in
    (ap (λ (z : StepEnd). z.answer) f, back_with k latches at end b n l ∙ ap (λ (z : StepEnd). with_part k z.latches latches) f, ap (λ (z : StepEnd). z.values) f)
