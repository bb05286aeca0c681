-- The name bytes in front of a list, one after the other. Assumes nothing.
use mathlib.Core.Path.{◌≡◌, ap, ◌∙◌}
use mathlib.Core.Bool.{Bool, true, false}
use mathlib.Core.List.{List, [], ◌∷◌}
use Prim.Native.Nat.{ℕ, suc, ◌+◌, ◌≤◌, ◌<◌}
use native.Mathlib.Numerals.{add-one}
use native.Mathlib.Omega.{arith}
use lib.ListN.{length, get_or, drop, drop_of_length-le, length-drop}
use lib.Seq.{drop-cons}
use Rattle.formula.specs.Classes.{pick, in_name, run}

pub run_end_lem : (s : List ℕ) (i : ℕ) → length s ≤ i → run (drop i s) ≡ 0
unfolding run
run_end_lem s i h = ap run (drop_of_length-le s h)

pub run_stop : (s : List ℕ) (i : ℕ) → i < length s → in_name (get_or s i 0) ≡ false → run (drop i s) ≡ 0
unfolding run
run_stop s i h e = ap run (drop-cons s i 0 h) ∙ simp e

pub run_step : (s : List ℕ) (i : ℕ) → i < length s → in_name (get_or s i 0) ≡ true → run (drop i s) ≡ suc (run (drop (i + 1) s))
unfolding run
run_step s i h e = rw (add-one) (ap run (drop-cons s i 0 h) ∙ simp e)

pub run-le : (l : List ℕ) → run l ≤ length l
unfolding run
run-le [] = omega arith
run-le (b ∷ l) = go (in_name b) (run-le l)
  where
    go : (t : Bool) → run l ≤ length l → pick t (suc (run l)) 0 ≤ suc (length l)
    go true h = omega arith
    go false h = omega arith

pub run_inside : (s : List ℕ) (at : ℕ) → at ≤ length s → at + run (drop at s) ≤ length s
run_inside s at h = omega (arith, run-le (drop at s), length-drop at s)
