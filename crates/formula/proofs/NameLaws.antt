-- Names, as the code judges them. Assumes nothing.
use Prim.Native.Nat.{ℕ, suc, ◌+◌, ◌≤◌, ◌<◌}
use mathlib.Core.Path.{◌≡◌, refl, sym, ◌∙◌}
use mathlib.Core.Bool.{Bool, true, false}
use mathlib.Core.List.{List, [], ◌∷◌}
use native.Mathlib.Omega.{arith}
use borrow.Author.Tests.{ne_eqb, le-leb, lt-leb}
use lib.Dec.{eqb, eqb-suc-suc}
use lib.ListN.{length, get_or, drop}
use Rattle.formula.specs.Classes.{pick, class_of, is_letter, in_name, run, name_bytes, is_name}

pub name-none : (s : List ℕ) → length s ≡ 0 → is_name s ≡ false
unfolding is_name
name-none [] h = refl
name-none (b ∷ s) h = absurd (omega arith)

pub name_letter : (s : List ℕ) → 0 < length s → is_letter (class_of (get_or s 0 0)) ≡ false → is_name s ≡ false
unfolding is_name
name_letter [] h e = absurd (omega arith)
name_letter (b ∷ s) h e = rw e

pub name-long : (s : List ℕ) → 15 < length s → is_name s ≡ false
unfolding is_name
name-long [] h = absurd (omega arith)
name-long (b ∷ s) h = rw (lt-leb (length s) 14 (omega arith)) (go (is_letter (class_of b)))
  where
    go : (t : Bool) → pick t false false ≡ false
    go true = refl
    go false = refl

pub all-run : (s : List ℕ) → name_bytes s ≡ eqb (run s) (length s)
unfolding name_bytes run
all-run [] = refl
all-run (b ∷ s) = go (in_name b) (all-run s)
  where
    go : (t : Bool) → name_bytes s ≡ eqb (run s) (length s) → pick t (name_bytes s) false ≡ eqb (pick t (suc (run s)) 0) (suc (length s))
    go true ih = ih ∙ sym (eqb-suc-suc (run s) (length s))
    go false ih = sym (ne_eqb 0 (suc (length s)) (λ z. omega arith))

pub name-rest : (s : List ℕ) (e : ℕ) → 0 < length s → is_letter (class_of (get_or s 0 0)) ≡ true → length s ≤ 15 → e ≡ 1 + run (drop 1 s) → is_name s ≡ eqb e (length s)
unfolding is_name
name-rest [] e h k l r = absurd (omega arith)
name-rest (b ∷ s) e h k l r =
    let n : 1 + run s ≡ suc (run s) = omega arith in
    rw (k, le-leb (length s) 14 (omega arith), r, n) (all-run s ∙ sym (eqb-suc-suc (run s) (length s)))
