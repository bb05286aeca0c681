-- What looking a name up finds. Assumes nothing.
use Rattle.std.specs.Prelude.{Option, Some, None}
use mathlib.Core.Path.{◌≡◌, refl, sym, subst}
use mathlib.Core.Bool.{Bool, true, false}
use mathlib.Core.List.{List, [], ◌∷◌, ◌++◌, Memᴰ}
use Rattle.assertion.specs.Graph.{Bytes}
use Rattle.graph.specs.Pieces.{same, Declared, look_up_name}
use Rattle.graph.specs.Claims.{LookUpMeans}
use Rattle.graph.specs.declared.FoundName.{FoundName}
use Rattle.graph.proofs.SplitLaws.{same_equal, same_self}

module _ (n : Bytes) where
  -- one that has the name, and one that has not
  here : (d : Declared) (ds : List Declared) → d.name ≡ n → look_up_name n (d ∷ ds) ≡ Some (record { place = d.place; width = d.width })
  unfolding look_up_name
  here d ds e = rw (e, same_self n, look_up_name)

  past : (d : Declared) (ds : List Declared) → (d.name ≡ n → ⊥) → look_up_name n (d ∷ ds) ≡ look_up_name n ds
  unfolding look_up_name
  past d ds h = by (same n d.name) refl
    where
      by : (t : Bool) → same n d.name ≡ t → look_up_name n (d ∷ ds) ≡ look_up_name n ds
      by true e = absurd (h (sym (same_equal n d.name e)))
      by false e = rw (look_up_name, e)

  first_found : (before after : List Declared) (d : Declared) → d.name ≡ n → ((e : Declared) → Memᴰ e before → e.name ≡ n → ⊥) → look_up_name n (before ++ (d ∷ after)) ≡ Some (record { place = d.place; width = d.width })
  first_found [] after d e h = here d after e
  first_found (b ∷ before) after d e h = rw (past b (before ++ (d ∷ after)) (h b (Memᴰ.head refl))) (first_found before after d e (λ x m. h x (Memᴰ.tail m)))

  none_found : (ds : List Declared) → ((e : Declared) → Memᴰ e ds → e.name ≡ n → ⊥) → look_up_name n ds ≡ None
  unfolding look_up_name
  none_found [] h = refl
  none_found (d ∷ ds) h = rw (past d ds (h d (Memᴰ.head refl))) (none_found ds (λ x m. h x (Memᴰ.tail m)))

pub look_up-means : (n : Bytes) (ds : List Declared) {r : Option FoundName} → r ≡ look_up_name n ds → LookUpMeans n ds r
look_up-means n ds e =
    subst (LookUpMeans n ds) (sym e)
    (record {
      found = λ before after d l k h. rw l (first_found n before after d k h);
      missing = λ h. none_found n ds h;
    })
