-- Tests over lists as existence. Assumes nothing.
use Prim.Native.Nat.{ℕ, zero, suc}
use mathlib.Core.Path.{◌≡◌, refl, ap, subst, sym}
use mathlib.Core.Logic.{◌⊎◌, inl, inr, ⊎_elim}
use mathlib.Core.Bool.{Bool, true, false, ◌&&◌, ◌||◌}
use mathlib.Core.List.{List, [], ◌∷◌, ◌++◌, map, Memᴰ}
use native.Mathlib.Omega.{arith}
use lib.ListN.{length}
use lib.Dec.{T}
use Rattle.assertion.specs.Lists.{any, each_then, lists, From}

pub and_intro : (a b : Bool) → T a → T b → T (a && b)
and_intro true b s t = t
and_intro false b s t = s

pub and_left : (a b : Bool) → T (a && b) → T a
and_left true b t = tt
and_left false b t = t

pub and_right : (a b : Bool) → T (a && b) → T b
and_right true b t = t
and_right false b t = absurd t

pub or_left : (a b : Bool) → T a → T (a || b)
or_left true b t = tt
or_left false b t = absurd t

pub or_right : (a b : Bool) → T b → T (a || b)
or_right true b t = tt
or_right false b t = t

pub or_cases : (a b : Bool) → T (a || b) → T a ⊎ T b
or_cases true b t = inl tt
or_cases false b t = inr t

-- two tests that follow from each other are equal
pub same_test : (a b : Bool) → (T a → T b) → (T b → T a) → a ≡ b
same_test true true f g = refl
same_test true false f g = absurd (f tt)
same_test false true f g = absurd (g tt)
same_test false false f g = refl

module _ {A : Type 0} where
  pub any_intro : (f : A → Bool) {x : A} {xs : List A} → Memᴰ x xs → T (f x) → T (any f xs)
  any_intro f (Memᴰ.head {x = y} {xs = ys} e) t = or_left (f y) (any f ys) (subst (λ z. T (f z)) e t)
  any_intro f (Memᴰ.tail {x = y} {xs = ys} m) t = or_right (f y) (any f ys) (any_intro f m t)

  pub any_elim : (f : A → Bool) (xs : List A) → T (any f xs) → (x : A) × Memᴰ x xs × T (f x)
  any_elim f [] t = absurd t
  any_elim f (x ∷ xs) t = ⊎_elim (λ s. (x, Memᴰ.head refl, s)) (λ s. later (any_elim f xs s)) (or_cases (f x) (any f xs) t)
    where
      later : (y : A) × Memᴰ y xs × T (f y) → (y : A) × Memᴰ y (x ∷ xs) × T (f y)
      later r = (r.0, Memᴰ.tail r.1, r.2)

  any-append-left : (f : A → Bool) (xs ys : List A) → T (any f xs) → T (any f (xs ++ ys))
  any-append-left f [] ys t = absurd t
  any-append-left f (x ∷ xs) ys t =
      ⊎_elim
      (λ s. or_left (f x) (any f (xs ++ ys)) s)
      (λ s. or_right (f x) (any f (xs ++ ys)) (any-append-left f xs ys s))
      (or_cases (f x) (any f xs) t)

  any-append-right : (f : A → Bool) (xs ys : List A) → T (any f ys) → T (any f (xs ++ ys))
  any-append-right f [] ys t = t
  any-append-right f (x ∷ xs) ys t = or_right (f x) (any f (xs ++ ys)) (any-append-right f xs ys t)

  any_append : (f : A → Bool) (xs ys : List A) → T (any f (xs ++ ys)) → T (any f xs) ⊎ T (any f ys)
  any_append f [] ys t = inr t
  any_append f (x ∷ xs) ys t =
      ⊎_elim
      (λ s. inl (or_left (f x) (any f xs) s))
      (λ s. ⊎_elim (λ u. inl (or_right (f x) (any f xs) u)) (λ u. inr u) (any_append f xs ys s))
      (or_cases (f x) (any f (xs ++ ys)) t)

pub any-map : {A B : Type 0} (f : B → Bool) (g : A → B) (xs : List A) → any f (map g xs) ≡ any (λ x. f (g x)) xs
any-map f g [] = refl
any-map f g (x ∷ xs) = ap (λ (b : Bool). f (g x) || b) (any-map f g xs)

pub any_cong : {A : Type 0} (f g : A → Bool) (xs : List A) → ((x : A) → f x ≡ g x) → any f xs ≡ any g xs
any_cong f g [] h = refl
any_cong f g (x ∷ xs) h = rw (h x, any_cong f g xs h)

module _ {A : Type 0} where
  each_intro : (f : List A → Bool) {x : A} {xs : List A} (ls : List (List A)) → Memᴰ x xs → T (any (λ l. f (x ∷ l)) ls) → T (any f (each_then xs ls))
  each_intro f {x} ls (Memᴰ.head {x = y} {xs = ys} e) t =
      any-append-left f (map (◌∷◌ y) ls) (each_then ys ls)
      (subst T (sym (any-map f (◌∷◌ y) ls)) (subst (λ z. T (any (λ l. f (z ∷ l)) ls)) e t))
  each_intro f ls (Memᴰ.tail {x = y} {xs = ys} m) t = any-append-right f (map (◌∷◌ y) ls) (each_then ys ls) (each_intro f ls m t)

  each_elim : (f : List A → Bool) (xs : List A) (ls : List (List A)) → T (any f (each_then xs ls)) → (x : A) × Memᴰ x xs × T (any (λ l. f (x ∷ l)) ls)
  each_elim f [] ls t = absurd t
  each_elim f (x ∷ xs) ls t =
      ⊎_elim
      (λ s. (x, Memᴰ.head refl, subst T (any-map f (◌∷◌ x) ls) s))
      (λ s. later (each_elim f xs ls s))
      (any_append f (map (◌∷◌ x) ls) (each_then xs ls) t)
    where
      later : (y : A) × Memᴰ y xs × T (any (λ l. f (y ∷ l)) ls) → (y : A) × Memᴰ y (x ∷ xs) × T (any (λ l. f (y ∷ l)) ls)
      later r = (r.0, Memᴰ.tail r.1, r.2)

  -- a test over every list of n elements of xs
  pub lists_intro : (f : List A → Bool) (n : ℕ) (xs p : List A) → From p xs → length p ≡ n → T (f p) → T (any f (lists n xs))
  lists_intro f zero xs [] h e t = or_left (f []) false t
  lists_intro f zero xs (x ∷ p) h e t = absurd (omega arith)
  lists_intro f (suc n) xs [] h e t = absurd (omega arith)
  lists_intro f (suc n) xs (x ∷ p) h e t = each_intro f (lists n xs) h.0 (lists_intro (λ l. f (x ∷ l)) n xs p h.1 (omega arith) t)

  pub lists_elim : (f : List A → Bool) (n : ℕ) (xs : List A) → T (any f (lists n xs)) → (p : List A) × From p xs × (length p ≡ n) × T (f p)
  lists_elim f zero xs t = ⊎_elim (λ s. ([], tt, refl, s)) (λ s. absurd s) (or_cases (f []) false t)
  lists_elim f (suc n) xs t =
      let r = each_elim f xs (lists n xs) t in
      further r.0 r.1 (lists_elim (λ l. f (r.0 ∷ l)) n xs r.2)
    where
      further : (x : A) → Memᴰ x xs → (p : List A) × From p xs × (length p ≡ n) × T (f (x ∷ p)) → (p : List A) × From p xs × (length p ≡ suc n) × T (f p)
      further x m r = (x ∷ r.0, (m, r.1), ap suc r.2, r.3)
