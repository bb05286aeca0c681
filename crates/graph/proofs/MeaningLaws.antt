-- A formula whose names are known and whose widths fit means what its names looked up make of it. Assumes nothing.
use Rattle.std.specs.Prelude.{is_some, Option, Some}
use Prim.Native.Nat.{ℕ, ◌+◌, ◌-◌, ◌≤◌, ◌<◌}
use mathlib.Core.Path.{◌≡◌, refl, sym, ap, subst, ◌∙◌}
use mathlib.Core.Bool.{Bool, true, false, ◌&&◌}
use mathlib.Core.List.{List, [], ◌∷◌, ◌++◌, Memᴰ}
use mathlib.Core.Logic.{◌⊎◌, inl, inr, ⊎_elim}
use native.Mathlib.Nat.{add-zero}
use native.Mathlib.Omega.{arith}
use borrow.Author.Tests.{eqb-true, ltb-true, lt-ltb, le-ltb}
use lib.Dec.{eqb, ltb}
use lib.ListN.{take, drop}
use Rattle.formula.specs.Classes.{pick, strength_of}
use Rattle.formula.specs.Grammar.{Tree, name, bit_of, bit, not, group, join}
use Rattle.formula.specs.Grammar as tree
use Rattle.formula.proofs.ByteLaws.{start_bit_lem}
use Rattle.formula.proofs.PostfixLaws.{InField}
use Rattle.assertion.specs.Graph.{Bytes, Run, signals_from, constants_from, Expr, truth, Name, bits_of}
use Rattle.assertion.specs.Graph as G
use Rattle.graph.specs.Pieces.{place_in, width_in, Declared, placed, look_up_name}
use Rattle.graph.specs.Pieces as pieces
use Rattle.graph.specs.Reading.{found_at, known, fits, joined, symbol, run_of, resolved}
use Rattle.graph.specs.Meaning.{EachWidth, Named, bit_in, Means}
use Rattle.graph.specs.Meaning.Named.{a_signal, a-constant}
use Rattle.graph.specs.Meaning.Means.{one_bit, bit_at_index, compared, is_zero, is_one, inverted, bracketed, both, some, just_one, both-alike}
use Rattle.graph.specs.declared.FoundName.{FoundName}
use Rattle.graph.proofs.SplitLaws.{same_equal}
use Rattle.graph.proofs.BitLaws.{bits-append, each_right}

-- ---- a name found
-- what is found of a name that stands in a list behind others, whose first bit has the place p
record Among (p : ℕ) (xs : List Name) (n : Bytes) (f : Option FoundName) : Type 0 where
  before : List Name
  after : List Name
  is : xs ≡ before ++ (record { name = n; width = width_in f } ∷ after)
  place : place_in f ≡ p + bits_of before

further : (p : ℕ) (x : Name) (xs : List Name) (n : Bytes) (f : Option FoundName) → Among (p + x.width) xs n f → Among p (x ∷ xs) n f
unfolding bits_of
further p x xs n f a = record { before = x ∷ a.before; after = a.after; is = ap (λ (l : List Name). x ∷ l) a.is; place = omega (arith, a.place) }

here : (p : ℕ) (x : Name) (xs : List Name) (n : Bytes) → n ≡ x.name → Among p (x ∷ xs) n (Some (record { place = p; width = x.width }))
unfolding bits_of
here p x xs n e = record { before = []; after = xs; is = rw e; place = omega arith }

found_among : (p : ℕ) (xs : List Name) (n : Bytes) → is_some (look_up_name n (placed p xs)) ≡ true → Among p xs n (look_up_name n (placed p xs))
unfolding look_up_name placed
found_among p [] n h = let z : ◌≡◌ {A = ℕ} 0 1 = cc in absurd (omega arith)
found_among p (x ∷ xs) n h = by (pieces.same n x.name) refl (found_among (p + x.width) xs n) h
  where
    found : Bool → Option FoundName
    found t = elim t [ true ↦ Some (record { place = p; width = x.width }) | false ↦ look_up_name n (placed (p + x.width) xs) ]

    by : (t : Bool) → pieces.same n x.name ≡ t → (is_some (look_up_name n (placed (p + x.width) xs)) ≡ true → Among (p + x.width) xs n (look_up_name n (placed (p + x.width) xs))) → is_some (found t) ≡ true → Among p (x ∷ xs) n (found t)
    by true e ih k = here p x xs n (same_equal n x.name e)
    by false e ih k = further p x xs n (look_up_name n (placed (p + x.width) xs)) (ih k)

-- a list of two parts, cut before one of its names
record First (ss before : List Name) (x : Name) : Type 0 where
  rest : List Name
  is : ss ≡ before ++ (x ∷ rest)

record Second (ss cs before : List Name) (x : Name) (after : List Name) : Type 0 where
  own : List Name
  is : cs ≡ own ++ (x ∷ after)
  passed : before ≡ ss ++ own

parted : (ss cs before : List Name) (x : Name) (after : List Name) → ss ++ cs ≡ before ++ (x ∷ after) → First ss before x ⊎ Second ss cs before x after
parted [] cs before x after h = inr (record { own = before; is = h; passed = refl })
parted (s ∷ ss) cs [] x after h = inl (record { rest = ss; is = let e : s ≡ x = cc in rw e })
parted (s ∷ ss) cs (b ∷ before) x after h =
    let e : s ≡ b = cc in
    let t : ss ++ cs ≡ before ++ (x ∷ after) = cc in
    ⊎_elim
    (λ (f : First ss before x). inl (record { rest = f.rest; is = rw (e, f.is) }))
    (λ (f : Second ss cs before x after). inr (record { own = f.own; is = f.is; passed = rw (e, f.passed) }))
    (parted ss cs before x after t)

-- the run of a name that is found, and its bits
pub record Located (ss cs : List Name) (n : Bytes) (f : Option FoundName) : Type 0 where
  pub run : Run
  pub named : Named ss cs n run (width_in f)
  pub starts : run_of (bits_of ss) (place_in f) ≡ run
  pub bits : (i : ℕ) → i < width_in f → symbol (bits_of ss) (place_in f + i) ≡ bit_in run i

pub bits_parted : (before : List Name) (x : Name) (after : List Name) → bits_of (before ++ (x ∷ after)) ≡ bits_of before + x.width + bits_of after
unfolding bits_of
bits_parted before x after = omega (arith, bits-append before (x ∷ after))

pub width-at : (before : List Name) (x : Name) (after : List Name) → EachWidth (before ++ (x ∷ after)) → 1 ≤ x.width
width-at before x after h = (each_right before (x ∷ after) h).0.some

-- two tests, both held
pub and_both : (x y : Bool) → (x && y) ≡ true → (x ≡ true) × (y ≡ true)
and_both true y h = (refl, h)
and_both false y h = let z : ◌≡◌ {A = ℕ} 0 1 = cc in absurd (omega arith)

pub pick-both : (x y : Bool) → pick x y false ≡ true → (x ≡ true) × (y ≡ true)
pick-both true y h = (refl, h)
pick-both false y h = let z : ◌≡◌ {A = ℕ} 0 1 = cc in absurd (omega arith)

module _ (ss cs : List Name) (wide : EachWidth (ss ++ cs)) where
  abbrev ns : List Declared
  ns = placed 0 (ss ++ cs)

  locate : (n : Bytes) (f : Option FoundName) → Among 0 (ss ++ cs) n f → Located ss cs n f
  unfolding symbol run_of bit_in
  locate n f a =
      let x : Name = record { name = n; width = width_in f } in
      let w : 1 ≤ width_in f = width-at a.before x a.after (subst EachWidth a.is wide) in
      ⊎_elim
      (λ (s : First ss a.before x).
      let m : bits_of ss ≡ bits_of a.before + width_in f + bits_of s.rest = ap bits_of s.is ∙ bits_parted a.before x s.rest in
      let p : place_in f ≡ bits_of a.before = omega (arith, a.place) in
      record {
        run = signals_from (bits_of a.before);
        named = a_signal a.before s.rest (width_in f) s.is;
        starts = rw (lt-ltb (place_in f) (bits_of ss) (omega arith), p);
        bits = λ i l. rw (lt-ltb (place_in f + i) (bits_of ss) (omega arith), p);
      })
      (λ (s : Second ss cs a.before x a.after).
      let m : bits_of a.before ≡ bits_of ss + bits_of s.own = ap bits_of s.passed ∙ bits-append ss s.own in
      let p : place_in f - bits_of ss ≡ bits_of s.own = omega (arith, a.place) in
      record {
        run = constants_from (bits_of s.own);
        named = a-constant s.own a.after (width_in f) s.is;
        starts = rw (le-ltb (place_in f) (bits_of ss) (omega (arith, a.place)), p);
        bits = λ i l.
            let q : place_in f + i - bits_of ss ≡ bits_of s.own + i = omega (arith, a.place) in
            rw (le-ltb (place_in f + i) (bits_of ss) (omega (arith, a.place)), q);
      })
      (parted ss cs a.before x a.after a.is)

  pub located : (n : Bytes) → is_some (look_up_name n ns) ≡ true → Located ss cs n (look_up_name n ns)
  located n h = locate n (look_up_name n ns) (found_among 0 (ss ++ cs) n h)

  module _ (s : Bytes) where
    name-means : (p n : ℕ) → is_some (found_at ns s p n) ≡ true → eqb (width_in (found_at ns s p n)) 1 ≡ true → Means ss cs s (name p n) (symbol (bits_of ss) (place_in (found_at ns s p n)))
    name-means p n k f =
        let o = eqb-true (width_in (found_at ns s p n)) 1 f in
        let l = located (take n (drop p s)) k in
        let b : symbol (bits_of ss) (place_in (found_at ns s p n)) ≡ bit_in l.run 0 = ap (symbol (bits_of ss)) (sym (add-zero (place_in (found_at ns s p n)))) ∙ l.bits 0 (omega arith) in
        rw b (one_bit p n l.run (subst (Named ss cs (take n (drop p s)) l.run) o l.named))

    bit-means : (p n i : ℕ) → is_some (found_at ns s p n) ≡ true → ltb i (width_in (found_at ns s p n)) ≡ true → Means ss cs s (bit_of p n i) (symbol (bits_of ss) ((place_in (found_at ns s p n)) + i))
    bit-means p n i k f =
        let o = ltb-true i (width_in (found_at ns s p n)) f in
        let l = located (take n (drop p s)) k in
        rw (l.bits i o) (bit_at_index p n i (width_in (found_at ns s p n)) l.run l.named o)

    alike-means : (p n q m : ℕ) → is_some (found_at ns s p n) ≡ true → is_some (found_at ns s q m) ≡ true → eqb (width_in (found_at ns s p n)) (width_in (found_at ns s q m)) ≡ true → Means ss cs s (tree.alike p n q m) (G.alike (run_of (bits_of ss) (place_in (found_at ns s p n))) (run_of (bits_of ss) (place_in (found_at ns s q m))) (width_in (found_at ns s p n)))
    alike-means p n q m k j f =
        let o = eqb-true (width_in (found_at ns s p n)) (width_in (found_at ns s q m)) f in
        let l = located (take n (drop p s)) k in
        let r = located (take m (drop q s)) j in
        rw (l.starts, r.starts)
        (compared p n q m (width_in (found_at ns s p n)) l.run r.run l.named (subst (Named ss cs (take m (drop q s)) r.run) (sym o) r.named))

    join-means : (b : ℕ) (e f : Tree) (x y : Expr) → 0 < strength_of b → Means ss cs s e x → Means ss cs s f y → Means ss cs s (join b e f) (joined b x y)
    unfolding strength_of joined
    join-means b e f x y h l r = by (eqb b 38) (eqb b 94) (eqb b 124) (eqb b 61) refl refl refl refl h
      where
        by : (t u v w : Bool) → eqb b 38 ≡ t → eqb b 94 ≡ u → eqb b 124 ≡ v → eqb b 61 ≡ w → 0 < pick t 4 (pick u 3 (pick v 2 (pick w 1 0))) → Means ss cs s (join b e f) (pick t (G.conj x y) (pick v (G.disj x y) (pick u (G.xor x y) (G.same x y))))
        by true u v w et eu ev ew h = rw (eqb-true b 38 et) (both e f x y l r)
        by false true true w et eu ev ew h = let z : ◌≡◌ {A = ℕ} 94 124 = sym (eqb-true b 94 eu) ∙ eqb-true b 124 ev in absurd (omega arith)
        by false true false w et eu ev ew h = rw (eqb-true b 94 eu) (just_one e f x y l r)
        by false false true w et eu ev ew h = rw (eqb-true b 124 ev) (some e f x y l r)
        by false false false true et eu ev ew h = rw (eqb-true b 61 ew) (both-alike e f x y l r)
        by false false false false et eu ev ew h = absurd (omega arith)

    digit-means : (b : ℕ) → Memᴰ b (48 ∷ 49 ∷ []) → Means ss cs s (bit b) (truth (eqb b 49))
    digit-means b (Memᴰ.head e) = rw e is_zero
    digit-means b (Memᴰ.tail (Memᴰ.head e)) = rw e is_one
    digit-means b (Memᴰ.tail (Memᴰ.tail x')) = elim x' [ ]

    -- THE LAW
    pub meaning : (e : Tree) → InField s e → known ns s e ≡ true → fits ns s e ≡ true → Means ss cs s e (resolved (bits_of ss) ns s e)
    unfolding known fits resolved
    meaning (name p n) i k f = name-means p n k f
    meaning (bit_of p n j) i k f = bit-means p n j k f
    meaning (tree.alike p n q m) i k f = let b = and_both (is_some (found_at ns s p n)) (is_some (found_at ns s q m)) k in alike-means p n q m b.0 b.1 f
    meaning (bit b) i k f = digit-means b (start_bit_lem b i)
    meaning (not e) i k f = inverted e (resolved (bits_of ss) ns s e) (meaning e i k f)
    meaning (group e) i k f = bracketed e (resolved (bits_of ss) ns s e) (meaning e i k f)
    meaning (join b e e2) i k f =
        let x = pick-both (known ns s e) (known ns s e2) k in
        let y = pick-both (fits ns s e) (fits ns s e2) f in
        join-means b e e2 (resolved (bits_of ss) ns s e) (resolved (bits_of ss) ns s e2) i.0 (meaning e i.1 x.0 y.0) (meaning e2 i.2 x.1 y.1)
