-- Counting, one cycle more at the end: it counts once, where its test passes. Assumes nothing.
use Prim.Native.Nat.{ℕ, ◌+◌}
use mathlib.Core.Path.{◌≡◌, refl, ap, ◌∙◌}
use mathlib.Core.Bool.{Bool, cond}
use mathlib.Core.List.{List, [], ◌∷◌, ◌++◌, append_assoc, append-nil}
use native.Mathlib.Omega.{arith}
use Rattle.assertion.specs.Graph.{Graph, Cycle}
use Rattle.assertion.specs.Paths.{is_rejected, bytes_of, sum, count_rejected, is_checked, count_checked}

bytes-append : (f : List Cycle → Bool) (s a b : List Cycle) → bytes_of f s (a ++ b) ≡ bytes_of f s a ++ bytes_of f (s ++ a) b
bytes-append f s [] b = rw append-nil
bytes-append f s (c ∷ a) b =
    ap (◌∷◌ (cond (f (s ++ (c ∷ []))) 1 0))
    (bytes-append f (s ++ (c ∷ [])) a b ∙ ap (λ (l : List Cycle). bytes_of f (s ++ (c ∷ [])) a ++ bytes_of f l b) (append_assoc s (c ∷ []) a))

sum-append : (a b : List ℕ) → sum (a ++ b) ≡ sum a + sum b
sum-append [] b = omega arith
sum-append (x ∷ a) b = omega (arith, sum-append a b)

one_byte : (f : List Cycle → Bool) (cs : List Cycle) (c : Cycle) → sum (bytes_of f [] (cs ++ (c ∷ []))) ≡ sum (bytes_of f [] cs) + cond (f (cs ++ (c ∷ []))) 1 0
one_byte f cs c = omega (arith, ap sum (bytes-append f [] cs (c ∷ [])), sum-append (bytes_of f [] cs) (bytes_of f cs (c ∷ [])))

pub rejected-more : (g : Graph) (cs : List Cycle) (c : Cycle) → count_rejected g (cs ++ (c ∷ [])) ≡ count_rejected g cs + cond (is_rejected g (cs ++ (c ∷ []))) 1 0
unfolding count_rejected
rejected-more g cs c = one_byte (is_rejected g) cs c

pub checked-more : (g : Graph) (cs : List Cycle) (c : Cycle) → count_checked g (cs ++ (c ∷ [])) ≡ count_checked g cs + cond (is_checked g (cs ++ (c ∷ []))) 1 0
unfolding count_checked
checked-more g cs c = one_byte (is_checked g) cs c

pub none-counted : (g : Graph) → (count_rejected g [] ≡ 0) × (count_checked g [] ≡ 0)
unfolding count_rejected count_checked
none-counted g = (refl, refl)
