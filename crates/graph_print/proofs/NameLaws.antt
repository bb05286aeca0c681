-- Distinct names are looked up where they stand. Assumes nothing.
use Rattle.std.specs.Prelude.{is_some}
use Prim.Native.Nat.{ℕ, zero, suc, ◌<◌}
use mathlib.Core.Path.{◌≡◌, refl, sym, subst, ◌∙◌}
use mathlib.Core.Bool.{Bool, true, false}
use mathlib.Core.List.Memᴰ
use mathlib.Core.List.{List, [], ◌∷◌, ◌++◌, map, map-append, Memᴰ}
use native.Mathlib.Omega.{arith}
use native.Mathlib.Decide.{dec_lt}
use borrow.Author.Tests.{lt-ltb}
use lib.ListN.{length, get_or, take, length-append, get_or-append}
use lib.Seq.{split_at, get_or-append_seam}
use Rattle.formula.specs.Classes.{pick, is_name}
use Rattle.assertion.specs.Graph.{Bytes, Name}
use Rattle.graph.specs.Pieces.{place_of, look_up, placed, look_up_name}
use Rattle.graph.proofs.MeaningLaws.{pick-both}
use Rattle.graph.proofs.SymbolTextLaws.{new_unknown}
use Rattle.graph.proofs.FormulaTextLaws.{place_inside, place-finds, vertex-known}
use Rattle.graph_print.proofs.Printable.{AllNames, name_of, Distinct}

-- what stands at a place is in the list
pub listed : (ns : List Bytes) (i : ℕ) → i < length ns → Memᴰ (get_or ns i []) ns
listed ns i l = subst (Memᴰ (get_or ns i [])) (sym (split_at ns i [] l)) (Memᴰ.append_right (take i ns) (Memᴰ.head refl))

-- a name among distinct ones
pub found : (ns : List Bytes) (i : ℕ) → Distinct ns → i < length ns → place_of (get_or ns i []) ns ≡ i
found ns i d l = first (dec_lt p i) (dec_lt i p)
  where
    n : Bytes
    n = get_or ns i []

    p : ℕ
    p = place_of n ns

    first : Dec (p < i) → Dec (i < p) → place_of n ns ≡ i
    first (yes h) k = absurd (d p i h l (place-finds n ns (listed ns i l)))
    first (no h) (yes k) = absurd (d i p k (place_inside n ns (listed ns i l)) (sym (place-finds n ns (listed ns i l))))
    first (no h) (no k) = omega arith

-- a name after others, distinct from them
pub new : (xs : List Bytes) (y : Bytes) (ys : List Bytes) → Distinct (xs ++ (y ∷ ys)) → Memᴰ y xs → ⊥
new xs y ys d m =
    d (place_of y xs) (length xs) (place_inside y xs m) (omega (arith, length-append xs (y ∷ ys)))
    (get_or-append xs (y ∷ ys) [] (place_of y xs) (place_inside y xs m) ∙ place-finds y xs m ∙ sym (get_or-append_seam xs y ys []))

pub new_name : (xs : List Name) (y : Name) (ys : List Name) → Distinct (map name_of (xs ++ (y ∷ ys))) → is_some (look_up_name y.name (placed 0 xs)) ≡ false
new_name xs y ys d =
    new_unknown y.name 0 xs
    (λ x m e. new (map name_of xs) y.name (map name_of ys) (subst Distinct (map-append name_of xs (y ∷ ys)) d) (Memᴰ.cast (sym e) (Memᴰ.map name_of m)))

-- ---- that names are distinct
pub distinct_none : Distinct []
distinct_none i j l h = absurd (omega arith)

pub distinct_cons : (n : Bytes) (ns : List Bytes) → (Memᴰ n ns → ⊥) → Distinct ns → Distinct (n ∷ ns)
distinct_cons n ns f d i zero l h e = absurd (omega arith)
distinct_cons n ns f d zero (suc j) l h e = f (Memᴰ.cast e (listed ns j (omega arith)))
distinct_cons n ns f d (suc i) (suc j) l h e = d i j (omega arith) (omega arith) e

-- ---- tested, for names that are written out
abbrev pub are_names : List Bytes → Bool
are_names [] = true
are_names (n ∷ ns) = pick (is_name n) (are_names ns) false

pub names_by : (ns : List Bytes) → are_names ns ≡ true → AllNames ns
names_by [] h = tt
names_by (n ∷ ns) h = let b = pick-both (is_name n) (are_names ns) h in (b.0, names_by ns b.1)

abbrev pub are_distinct : List Bytes → Bool
are_distinct [] = true
are_distinct (n ∷ ns) = pick (is_some (look_up n ns)) false (are_distinct ns)

pub distinct_by : (ns : List Bytes) → are_distinct ns ≡ true → Distinct ns
distinct_by [] h = distinct_none
distinct_by (n ∷ ns) h = by (distinct_by ns) (is_some (look_up n ns)) refl h
  where
    by : (are_distinct ns ≡ true → Distinct ns) → (b : Bool) → is_some (look_up n ns) ≡ b → pick b false (are_distinct ns) ≡ true → Distinct (n ∷ ns)
    by f true e k = let z : ◌≡◌ {A = ℕ} 0 1 = cc in absurd (omega arith)
    by f false e k = distinct_cons n ns (λ m. let q = vertex-known m in let z : ◌≡◌ {A = ℕ} 0 1 = cc in omega arith) (f k)
