-- A tree that means something over names that differ: its names are known, its widths fit, and its names looked up
-- make of it what it means. Byte 38 is `&`, 61 `=`, 94 `^`, 124 `|`. Assumes nothing.
use Rattle.std.specs.Prelude.{is_some, Option, Some}
use Prim.Native.Nat.{ℕ, suc, ◌+◌, ◌-◌, ◌≤◌, ◌<◌}
use mathlib.Core.Path.{◌≡◌, refl, sym, ap, subst, ◌∙◌}
use mathlib.Core.Bool.{Bool, true, false}
use mathlib.Core.List.{List, [], ◌∷◌, ◌++◌, append_assoc}
use native.Mathlib.Nat.{add-zero, zero-add}
use native.Mathlib.Omega.{arith}
use borrow.Author.Tests.{eq-eqb, lt-ltb, le-ltb}
use lib.ListN.{length, get_or, length-append}
use lib.Seq.{get_or-append-add}
use Rattle.formula.specs.Grammar.{Tree, join}
use Rattle.assertion.specs.Graph.{Bytes, Run, Expr, neg, Name, bits_of}
use Rattle.graph.specs.Pieces.{place_in, width_in, same, Declared, placed, look_up_name}
use Rattle.graph.specs.Reading.{known, fits, joined, symbol, run_of, resolved}
use Rattle.graph.specs.Meaning.{EachWidth, Named, bit_in, Means}
use Rattle.graph.specs.Meaning.Named.{a_signal, a-constant}
use Rattle.graph.specs.Meaning.Means.{one_bit, bit_at_index, compared, is_zero, is_one, inverted, bracketed, both, some, just_one, both-alike}
use Rattle.graph.specs.declared.FoundName.{FoundName}
use Rattle.graph.proofs.SplitLaws.{same_equal, same_self}
use Rattle.graph.proofs.BitLaws.{bits-append}
use Rattle.graph.proofs.DifferLaws.{Differ}
use Rattle.graph.proofs.MeaningLaws.{bits_parted, width-at, located}

-- a name of a list whose names differ is found where it stands
listed_found : (p : ℕ) (before : List Name) (x : Name) (after : List Name) → Differ (before ++ (x ∷ after)) → look_up_name x.name (placed p (before ++ (x ∷ after))) ≡ Some (record { place = p + bits_of before; width = x.width })
unfolding look_up_name placed bits_of
listed_found p [] x after h = rw (same_self x.name, look_up_name, add-zero p)
listed_found p (b ∷ before) x after h =
    by (same x.name b.name) refl (listed_found (p + b.width) before x after (λ i j d l m e. h (suc i) (suc j) d (omega arith) (omega arith) e))
  where
    found : Bool → Option FoundName
    found t = elim t [ true ↦ Some (record { place = p; width = b.width }) | false ↦ look_up_name x.name (placed (p + b.width) (before ++ (x ∷ after))) ]

    by : (t : Bool) → same x.name b.name ≡ t → look_up_name x.name (placed (p + b.width) (before ++ (x ∷ after))) ≡ Some (record { place = p + b.width + bits_of before; width = x.width }) → found t ≡ Some (record { place = p + (b.width + bits_of before); width = x.width })
    by true e ih =
        let it : get_or (before ++ (x ∷ after)) (length before + 0) b ≡ x = get_or-append-add before (x ∷ after) 0 b in
        absurd (h 0 (suc (length before + 0)) b (omega arith) (omega (arith, length-append before (x ∷ after))) (sym (same_equal x.name b.name e) ∙ sym (ap (λ (y : Name). y.name) it)))
    by false e ih = let z : p + b.width + bits_of before ≡ p + (b.width + bits_of before) = omega arith in ih ∙ rw z

module _ (ss cs : List Name) where
  abbrev ns : List Declared
  ns = placed 0 (ss ++ cs)

  -- what names a signal or a constant is found as it
  pub record FoundAs (n : Bytes) (r : Run) (w : ℕ) : Type 0 where
    pub is_known : is_some (look_up_name n ns) ≡ true
    pub width_is : (width_in (look_up_name n ns)) ≡ w
    pub run_is : run_of (bits_of ss) (place_in (look_up_name n ns)) ≡ r

  -- a tree whose names are known and whose widths fit, and what its names looked up make of it
  pub record Resolves (s : Bytes) (e : Tree) (x : Expr) : Type 0 where
    pub names-known : known ns s e ≡ true
    pub widths_fit : fits ns s e ≡ true
    pub is : resolved (bits_of ss) ns s e ≡ x

  joins : {s : Bytes} (b : ℕ) {e f : Tree} {x y : Expr} → Resolves s e x → Resolves s f y → Resolves s (join b e f) (joined b x y)
  unfolding known fits resolved
  joins b h k = record { names-known = rw (h.names-known, k.names-known); widths_fit = rw (h.widths_fit, k.widths_fit); is = rw (h.is, k.is) }

  module _ (wide : EachWidth (ss ++ cs)) (differ : Differ (ss ++ cs)) where
    pub named-found : {n : Bytes} {r : Run} {w : ℕ} → Named ss cs n r w → FoundAs n r w
    unfolding run_of
    named-found {n} (a_signal before after w e) =
        let x : Name = record { name = n; width = w } in
        let l : ss ++ cs ≡ before ++ (x ∷ (after ++ cs)) = rw e (append_assoc before (x ∷ after) cs) in
        let f : look_up_name n ns ≡ Some (record { place = bits_of before; width = w }) = rw (l, ← zero-add (bits_of before)) (listed_found 0 before x (after ++ cs) (subst Differ l differ)) in
        let k : 1 ≤ w = width-at before x (after ++ cs) (subst EachWidth l wide) in
        let m : bits_of ss ≡ bits_of before + w + bits_of after = ap bits_of e ∙ bits_parted before x after in
        record { is_known = rw f; width_is = rw f; run_is = rw (f, lt-ltb (bits_of before) (bits_of ss) (omega arith)) }
    named-found {n} (a-constant before after w e) =
        let x : Name = record { name = n; width = w } in
        let l : ss ++ cs ≡ (ss ++ before) ++ (x ∷ after) = rw e (sym (append_assoc ss before (x ∷ after))) in
        let f : look_up_name n ns ≡ Some (record { place = bits_of (ss ++ before); width = w }) = rw (l, ← zero-add (bits_of (ss ++ before))) (listed_found 0 (ss ++ before) x after (subst Differ l differ)) in
        let m : bits_of (ss ++ before) ≡ bits_of ss + bits_of before = bits-append ss before in
        let d : bits_of (ss ++ before) - bits_of ss ≡ bits_of before = omega arith in
        record { is_known = rw f; width_is = rw f; run_is = rw (f, le-ltb (bits_of (ss ++ before)) (bits_of ss) (omega arith), d) }

    -- and its bits, looked up, are those of its run
    bit_found : {n : Bytes} {r : Run} {w : ℕ} → Named ss cs n r w → (i : ℕ) → i < w → symbol (bits_of ss) ((place_in (look_up_name n ns)) + i) ≡ bit_in r i
    bit_found {n} {r} {w} h i k =
        let f = named-found h in
        let l = located ss cs wide n f.is_known in
        l.bits i (omega (arith, f.width_is, k)) ∙ ap (λ (t : Run). bit_in t i) (sym l.starts ∙ f.run_is)

    -- THE LAW: what a tree means is what its names looked up make of it
    pub means-resolves : {s : Bytes} {e : Tree} {x : Expr} → Means ss cs s e x → Resolves s e x
    unfolding known fits resolved joined
    means-resolves (one_bit p n r h) =
        let f = named-found h in
        record { names-known = f.is_known; widths_fit = rw f.width_is; is = ap (symbol (bits_of ss)) (sym (add-zero _)) ∙ bit_found h 0 (omega arith) }
    means-resolves (bit_at_index p n i w r h k) =
        let f = named-found h in
        record { names-known = f.is_known; widths_fit = rw f.width_is (lt-ltb i w k); is = bit_found h i k }
    means-resolves (compared p n q m w a b h k) =
        let f = named-found h in
        let l = named-found k in
        record { names-known = rw (f.is_known, l.is_known); widths_fit = rw (f.width_is, l.width_is) (eq-eqb w w refl); is = rw (f.run_is, l.run_is, f.width_is) }
    means-resolves is_zero = record { names-known = refl; widths_fit = refl; is = refl }
    means-resolves is_one = record { names-known = refl; widths_fit = refl; is = refl }
    means-resolves (inverted e x h) = let r = means-resolves h in record { names-known = r.names-known; widths_fit = r.widths_fit; is = ap neg r.is }
    means-resolves (bracketed e x h) = let r = means-resolves h in record { names-known = r.names-known; widths_fit = r.widths_fit; is = r.is }
    means-resolves (both e f x y h k) = joins 38 (means-resolves h) (means-resolves k)
    means-resolves (some e f x y h k) = joins 124 (means-resolves h) (means-resolves k)
    means-resolves (just_one e f x y h k) = joins 94 (means-resolves h) (means-resolves k)
    means-resolves (both-alike e f x y h k) = joins 61 (means-resolves h) (means-resolves k)
