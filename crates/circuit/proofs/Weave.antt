-- Two lists of numbers, taken by turns into one, and where each number stands. Assumes nothing.
use Prim.Native.Nat.{ℕ, zero, suc, ◌+◌, ◌*◌, ◌<◌}
use mathlib.Core.Path.{◌≡◌, refl, ap, ◌∙◌}
use mathlib.Core.List.{List, [], ◌∷◌, ◌++◌}
use native.Mathlib.Omega.{arith}
use lib.ListN.{length, get_or}

abbrev pub weave : List ℕ → List ℕ → List ℕ
weave [] ys = []
weave (x ∷ xs) [] = []
weave (x ∷ xs) (y ∷ ys) = x ∷ y ∷ weave xs ys

pub weave_length : (xs ys : List ℕ) → length xs ≡ length ys → length (weave xs ys) ≡ 2 * length xs
weave_length [] ys h = refl
weave_length (x ∷ xs) [] h = absurd (omega arith)
weave_length (x ∷ xs) (y ∷ ys) h = omega (arith, weave_length xs ys (omega arith))

pub weave_append : (xs ys zs us : List ℕ) → length xs ≡ length ys → weave (xs ++ zs) (ys ++ us) ≡ weave xs ys ++ weave zs us
weave_append [] [] zs us h = refl
weave_append [] (y ∷ ys) zs us h = absurd (omega arith)
weave_append (x ∷ xs) [] zs us h = absurd (omega arith)
weave_append (x ∷ xs) (y ∷ ys) zs us h = ap (λ (l : List ℕ). x ∷ y ∷ l) (weave_append xs ys zs us (omega arith))

-- number k of the first list, and of the second
pub weave_first : (xs ys rest : List ℕ) (k : ℕ) → length xs ≡ length ys → k < length xs → get_or (weave xs ys ++ rest) (2 * k) 0 ≡ get_or xs k 0
weave_first [] ys rest k h l = absurd (omega arith)
weave_first (x ∷ xs) [] rest k h l = absurd (omega arith)
weave_first (x ∷ xs) (y ∷ ys) rest zero h l = refl
weave_first (x ∷ xs) (y ∷ ys) rest (suc k) h l =
    let e : 2 * suc k ≡ suc (suc (2 * k)) = omega arith in
    ap (λ (i : ℕ). get_or (x ∷ y ∷ (weave xs ys ++ rest)) i 0) e ∙ weave_first xs ys rest k (omega arith) (omega arith)

pub weave_second : (xs ys rest : List ℕ) (k : ℕ) → length xs ≡ length ys → k < length xs → get_or (weave xs ys ++ rest) (2 * k + 1) 0 ≡ get_or ys k 0
weave_second [] ys rest k h l = absurd (omega arith)
weave_second (x ∷ xs) [] rest k h l = absurd (omega arith)
weave_second (x ∷ xs) (y ∷ ys) rest zero h l = refl
weave_second (x ∷ xs) (y ∷ ys) rest (suc k) h l =
    let e : 2 * suc k + 1 ≡ suc (suc (2 * k + 1)) = omega arith in
    ap (λ (i : ℕ). get_or (x ∷ y ∷ (weave xs ys ++ rest)) i 0) e ∙ weave_second xs ys rest k (omega arith) (omega arith)
