-- Names that differ, one after another. Assumes nothing.
use Rattle.std.specs.Prelude.{is_some}
use Prim.Native.Nat.{ℕ, zero, suc, ◌+◌, ◌<◌}
use mathlib.Core.Path.{◌≡◌, refl, sym, ap, ◌∙◌}
use mathlib.Core.Bool.{Bool, true, false}
use mathlib.Core.List.{List, [], ◌∷◌, ◌++◌}
use native.Mathlib.Omega.{arith}
use native.Mathlib.Decide.{dec_lt}
use lib.ListN.{length, get_or, length-append, get_or-append}
use lib.Seq.{get_or-append-add}
use Rattle.assertion.specs.Graph.{Bytes, Name}
use Rattle.graph.specs.Pieces.{same, placed, look_up_name}
use Rattle.graph.proofs.SplitLaws.{same_self}

-- no two names of a list are the same
abbrev pub Differ : List Name → Type 0
Differ xs = (i j : ℕ) (d : Name) → i < j → j < length xs → (get_or xs i d).name ≡ (get_or xs j d).name → ⊥

-- a name that is not found is none of the list
not_found : (n : Bytes) (p : ℕ) (xs : List Name) → is_some (look_up_name n (placed p xs)) ≡ false → (i : ℕ) (d : Name) → i < length xs → (get_or xs i d).name ≡ n → ⊥
unfolding look_up_name placed
not_found n p [] h i d l e = omega arith
not_found n p (x ∷ xs) h i d l e = by (same n x.name) refl h (not_found n (p + x.width) xs) i l e
  where
    found : Bool → Bool
    found t = elim t [ true ↦ true | false ↦ (is_some (look_up_name n (placed (p + x.width) xs))) ]

    at : (i : ℕ) → same n x.name ≡ false → (is_some (look_up_name n (placed (p + x.width) xs)) ≡ false) → ((is_some (look_up_name n (placed (p + x.width) xs)) ≡ false) → (i : ℕ) (d : Name) → i < length xs → (get_or xs i d).name ≡ n → ⊥) → i < suc (length xs) → (get_or (x ∷ xs) i d).name ≡ n → ⊥
    at zero s k ih l e = let z : ◌≡◌ {A = Bool} true false = sym (same_self n) ∙ ap (same n) (sym e) ∙ s in let y : ◌≡◌ {A = ℕ} 0 1 = cc in omega arith
    at (suc i) s k ih l e = ih k i d (omega arith) e

    by : (t : Bool) → same n x.name ≡ t → is_some (look_up_name n (placed p (x ∷ xs))) ≡ false → ((is_some (look_up_name n (placed (p + x.width) xs)) ≡ false) → (i : ℕ) (d : Name) → i < length xs → (get_or xs i d).name ≡ n → ⊥) → (i : ℕ) → i < suc (length xs) → (get_or (x ∷ xs) i d).name ≡ n → ⊥
    by true s k ih i l e = let z : ◌≡◌ {A = Bool} true false = rw (placed, look_up_name, s) at k in let y : ◌≡◌ {A = ℕ} 0 1 = cc in omega arith
    by false s k ih i l e = at i s (rw (placed, look_up_name, s) at k) ih l e

-- one more that is not found
pub differ-more : (xs : List Name) (x : Name) → Differ xs → is_some (look_up_name x.name (placed 0 xs)) ≡ false → Differ (xs ++ (x ∷ []))
differ-more xs x h new i j d l k e = elim (dec_lt j (length xs)) [
  | yes m ↦ h i j d l m (sym (ap (λ (y : Name). y.name) (get_or-append xs (x ∷ []) d i (omega arith))) ∙ e ∙ ap (λ (y : Name). y.name) (get_or-append xs (x ∷ []) d j m))
  | no m ↦
      let q : j ≡ length xs + 0 = omega (arith, length-append xs (x ∷ [])) in
      let a : get_or (xs ++ (x ∷ [])) j d ≡ x = rw q (get_or-append-add xs (x ∷ []) 0 d) in
      not_found x.name 0 xs new i d (omega arith) (sym (ap (λ (y : Name). y.name) (get_or-append xs (x ∷ []) d i (omega arith))) ∙ e ∙ ap (λ (y : Name). y.name) a)
]
