-- Tests and choices over lists. Assumes nothing.
use Rattle.std.specs.Prelude.{ℕ, zero, suc, Bool, false, ◌||◌}
use mathlib.Core.List.{List, [], ◌∷◌, ◌++◌, map, Memᴰ}

-- the test passes at one element of the list, or more
abbrev pub any : {A : Type 0} → (A → Bool) → List A → Bool
any f [] = false
any f (x ∷ xs) = f x || any f xs

-- each x of xs, put in front of each list of ls
abbrev pub each_then : {A : Type 0} → List A → List (List A) → List (List A)
each_then [] ls = []
each_then (x ∷ xs) ls = map (◌∷◌ x) ls ++ each_then xs ls

-- every list of n elements of xs
abbrev pub lists : {A : Type 0} → ℕ → List A → List (List A)
lists zero xs = [] ∷ []
lists (suc n) xs = each_then xs (lists n xs)

-- each element of the first list stands in the second
abbrev pub From : {A : Type 0} → List A → List A → Type 0
From [] xs = Unit {0}
From (p ∷ ps) xs = Memᴰ p xs × From ps xs
