-- What a search of a list by a test answers. Assumes nothing.
use Rattle.std.specs.Prelude.{ℕ, zero, suc, ◌<◌, ◌||◌}
use Rattle.std.specs.Bool.{MatchBool}
use Rattle.std.specs.List.{AllWithin, HoldsAt}
use mathlib.Core.Path.{◌≡◌, refl, sym}
use mathlib.Core.Bool.{Bool, true, false}
use mathlib.Core.List.{List, [], ◌∷◌}
use native.Mathlib.Omega.{arith}
use lib.ListN.{length, get_or}
use Rattle.formula.specs.Classes.{pick}
use Rattle.assertion.specs.Lists.{any}
use Rattle.graph.specs.Private.Steps.{all_words}

module _ {A : Type 0} (test : A → Bool) where
  some-passes : (xs : List A) (k : ℕ) → k < length xs → ((d : A) → test (get_or xs k d) ≡ true) → any test xs ≡ true
  some-passes [] k l h = absurd (omega arith)
  some-passes (x ∷ xs) zero l h = rw (h x)
  some-passes (x ∷ xs) (suc k) l h = rw (some-passes xs k (omega arith) h) (or_true (test x))
    where
      or_true : (t : Bool) → (t || true) ≡ true
      or_true true = refl
      or_true false = refl

  none-passes : (xs : List A) → ((k : ℕ) (d : A) → k < length xs → test (get_or xs k d) ≡ false) → any test xs ≡ false
  none-passes [] h = refl
  none-passes (x ∷ xs) h = rw (h 0 x (omega arith)) (none-passes xs (λ k d l. h (suc k) d (omega arith)))

  pub any_by : (xs : List A) (r : Bool) → MatchBool r ((k : ℕ) × (k < length xs) × HoldsAt (λ x. test x ≡ true) xs k) (AllWithin (λ x. test x ≡ false) xs 0 (length xs)) → r ≡ any test xs
  any_by xs true h = sym (some-passes xs h.0 h.1 h.2)
  any_by xs false h = sym (none-passes xs (λ k d l. h k d (omega arith) l))

module _ (test : ℕ → Bool) where
  one-fails : (ws : List ℕ) (k : ℕ) → k < length ws → ((d : ℕ) → test (get_or ws k d) ≡ false) → all_words test ws ≡ false
  unfolding all_words
  one-fails [] k l h = absurd (omega arith)
  one-fails (w ∷ ws) zero l h = rw (h w)
  one-fails (w ∷ ws) (suc k) l h = rw (one-fails ws k (omega arith) h) (no_more (test w))
    where
      no_more : (t : Bool) → pick t false false ≡ false
      no_more true = refl
      no_more false = refl

  none-fails : (ws : List ℕ) → ((k d : ℕ) → k < length ws → test (get_or ws k d) ≡ true) → all_words test ws ≡ true
  unfolding all_words
  none-fails [] h = refl
  none-fails (w ∷ ws) h = rw (h 0 w (omega arith)) (none-fails ws (λ k d l. h (suc k) d (omega arith)))

  pub all_by : (ws : List ℕ) (r : Bool) → MatchBool r (AllWithin (λ w. test w ≡ true) ws 0 (length ws)) ((k : ℕ) × (k < length ws) × HoldsAt (λ w. test w ≡ false) ws k) → r ≡ all_words test ws
  all_by ws true h = sym (none-fails ws (λ k d l. h k d (omega arith) l))
  all_by ws false h = sym (one-fails ws h.0 h.1 h.2)
