-- The order in which gates are placed: of all gates, or up to those that wait. Assumes nothing.
use mathlib.Core.Path.{◌≡◌, refl, sym, ap, ◌∙◌}
use mathlib.Core.Bool.{Bool, true, false, not, cond, ◌&&◌, ◌||◌, true≢false, or-true}
use mathlib.Core.List.{List, [], ◌∷◌, ◌++◌}
use mathlib.Core.Logic.{◌⊎◌, inl, inr}
use Prim.Native.Nat.{ℕ, zero, suc, ◌+◌, ◌<◌, ◌≤◌}
use native.Mathlib.Omega.{arith}
use native.Mathlib.Decide.{ℕ_discrete}
use native.Mathlib.Nat.{suc_inj, zero-add, add-zero, suc-add}
use lib.Dec.{eqb, ltb}
use lib.ListN.{length, get_or, take, length-append, get_or-append}
use lib.Seq.{length-take-le, take_all, take-suc, take-append-le, take_at, get_or_at, get_or-take}
use borrow.Author.Tests.{eq-eqb, ne_eqb, lt-ltb, ltb-true, ltb-false, not-true}
use Rattle.netlist.proofs.EachLaws.{both}
use Rattle.gate_order.specs.Placing.{member, index_of, lowest, Placing, ordered, waiting, is_placed, is_ready, chosen, place_from}

untrue : (b : Bool) → (b ≡ true → ⊥) → b ≡ false
untrue true h = absurd (h refl)
untrue false h = refl

-- ---- members and where they stand

-- no number stands twice
abbrev pub Distinct : List ℕ → Type 0
Distinct order = (j k : ℕ) → j < length order → k < length order → get_or order j 0 ≡ get_or order k 0 → j ≡ k

module _ (x : ℕ) where
  pub index_stands : (order : List ℕ) → member x order ≡ true → (index_of x order < length order) × (get_or order (index_of x order) 0 ≡ x)
  index_stands [] h = absurd (true≢false (sym h))
  index_stands (y ∷ ys) h = elim (ℕ_discrete x y) [
    | yes e ↦ rw (eq-eqb x y e) (omega arith, sym e)
    | no d ↦
        let t : member x ys ≡ true = rw (ne_eqb x y d) at h in
        let i = index_stands ys t in
        rw (ne_eqb x y d) (omega (arith, i.0), i.1)
  ]

  pub member-stands : (order : List ℕ) (k : ℕ) → k < length order → get_or order k 0 ≡ x → member x order ≡ true
  member-stands [] k l h = absurd (omega arith)
  member-stands (y ∷ ys) zero l h = rw (eq-eqb x y (sym h))
  member-stands (y ∷ ys) (suc k) l h = rw (member-stands ys k (omega arith) h) (or-true (eqb x y))

pub index_at : (order : List ℕ) → Distinct order → (k : ℕ) → k < length order → index_of (get_or order k 0) order ≡ k
index_at order once k l =
    let i = index_stands (get_or order k 0) order (member-stands (get_or order k 0) order k l refl) in
    once (index_of (get_or order k 0) order) k i.0 l i.1

-- ---- one number more
pub member-more : (x z : ℕ) (ys : List ℕ) → member x (ys ++ (z ∷ [])) ≡ (member x ys || eqb x z)
member-more x z [] = elim (ℕ_discrete x z) [ yes e ↦ rw (eq-eqb x z e) | no d ↦ rw (ne_eqb x z d) ]
member-more x z (y ∷ ys) = elim (ℕ_discrete x y) [ yes e ↦ rw (eq-eqb x y e) | no d ↦ rw (ne_eqb x y d) (member-more x z ys) ]

pub index_kept : (x z : ℕ) (ys : List ℕ) → member x ys ≡ true → index_of x (ys ++ (z ∷ [])) ≡ index_of x ys
index_kept x z [] h = absurd (true≢false (sym h))
index_kept x z (y ∷ ys) h = elim (ℕ_discrete x y) [
  | yes e ↦ rw (eq-eqb x y e)
  | no d ↦ let t : member x ys ≡ true = rw (ne_eqb x y d) at h in rw (ne_eqb x y d) (ap suc (index_kept x z ys t))
]

pub index_new : (x : ℕ) (ys : List ℕ) → member x ys ≡ false → index_of x (ys ++ (x ∷ [])) ≡ length ys
index_new x [] h = rw (eq-eqb x x refl)
index_new x (y ∷ ys) h = elim (ℕ_discrete x y) [
  | yes e ↦ absurd (let t : true ≡ false = rw (eq-eqb x y e) at h in true≢false t)
  | no d ↦ let t : member x ys ≡ false = rw (ne_eqb x y d) at h in rw (ne_eqb x y d) (ap suc (index_new x ys t))
]

-- ---- as many distinct numbers as there are in a range are all of it

-- how many of the n numbers from x on do not stand in a list
abbrev missing : List ℕ → ℕ → ℕ → ℕ
missing ys x zero = 0
missing ys x (suc n) = cond (member x ys) 0 1 + missing ys (suc x) n

missing-none : (n x : ℕ) → missing [] x n ≡ n
missing-none zero x = refl
missing-none (suc n) x = let i = missing-none n (suc x) in omega arith

missing-below : (n x z : ℕ) (ys : List ℕ) → z < x → missing (z ∷ ys) x n ≡ missing ys x n
missing-below zero x z ys h = refl
missing-below (suc n) x z ys h = rw (ne_eqb x z (λ e. omega arith), missing-below n (suc x) z ys (omega arith))

missing_less : (n x z : ℕ) (ys : List ℕ) → member z ys ≡ false → x ≤ z → z < x + n → missing (z ∷ ys) x n + 1 ≡ missing ys x n
missing_less zero x z ys h l u = absurd (omega arith)
missing_less (suc n) x z ys h l u = elim (ℕ_discrete x z) [
  | yes e ↦
      let m : member x ys ≡ false = rw e h in
      let s = missing-below n (suc x) z ys (omega arith) in
      rw (eq-eqb x z e, m) (omega arith)
  | no d ↦ rw (ne_eqb x z d) (let i = missing_less n (suc x) z ys h (omega (arith, d)) (omega arith) in omega arith)
]

missing-some : (n x : ℕ) (ys : List ℕ) → 0 < missing ys x n → (y : ℕ) × (x ≤ y) × (y < x + n) × (member y ys ≡ false)
missing-some zero x ys h = absurd (omega arith)
missing-some (suc n) x ys h = by (member x ys) refl (λ k. missing-some n (suc x) ys k)
  where
    by : (b : Bool) → member x ys ≡ b → (0 < missing ys (suc x) n → (y : ℕ) × (suc x ≤ y) × (y < suc x + n) × (member y ys ≡ false))
        → (y : ℕ) × (x ≤ y) × (y < x + suc n) × (member y ys ≡ false)
    by true e more =
        let k : 0 < 0 + missing ys (suc x) n = rw e at h in
        let m = more (omega arith) in
        (m.0, omega (arith, m.1), omega (arith, m.2), m.3)
    by false e more = (x, omega arith, omega arith, e)

module _ (f count : ℕ) where
  -- each number of a list is one of the `count` from f on
  abbrev pub Inside : List ℕ → Type 0
  Inside order = (k : ℕ) → k < length order → (f ≤ get_or order k 0) × (get_or order k 0 < f + count)

  missing-rest : (order : List ℕ) → Inside order → Distinct order → missing order f count + length order ≡ count
  missing-rest [] inside once = let i = missing-none count f in omega arith
  missing-rest (z ∷ ys) inside once =
      let i = missing-rest ys (λ k l. inside (suc k) (omega arith)) (λ j k l m e. suc_inj (once (suc j) (suc k) (omega arith) (omega arith) e)) in
      let r = inside 0 (omega arith) in
      let s = missing_less count f z ys (untrue (member z ys) new) r.0 r.1 in
      omega arith
    where
      new : member z ys ≡ true → ⊥
      new e =
          let i = index_stands z ys e in
          let q = once 0 (suc (index_of z ys)) (omega arith) (omega (arith, i.0)) (sym i.1) in
          omega arith

  module _ (order : List ℕ) (inside : Inside order) (once : Distinct order) where
    pub all_stand : length order ≡ count → (x : ℕ) → f ≤ x → x < f + count → member x order ≡ true
    all_stand whole x l u = by (member x order) refl
      where
        by : (b : Bool) → member x order ≡ b → member x order ≡ true
        by true e = e
        by false e =
            let rest = missing-rest order inside once in
            let less = missing_less count f x order e l u in
            absurd (omega arith)

    pub some-missing : length order < count → (x : ℕ) × (f ≤ x) × (x < f + count) × (member x order ≡ false)
    some-missing h = missing-some count f order (let c = missing-rest order inside once in omega arith)

-- ---- the lowest number that passes a test
module _ (t : ℕ → Bool) where
  pub lowest-from : (x n : ℕ) → x ≤ lowest t x n
  lowest-from x zero = omega arith
  lowest-from x (suc n) = by (t x) (lowest-from (suc x) n)
    where
      by : (b : Bool) → suc x ≤ lowest t (suc x) n → x ≤ cond b x (lowest t (suc x) n)
      by true i = omega arith
      by false i = omega arith

  pub lowest_passes : (x n : ℕ) → lowest t x n < x + n → t (lowest t x n) ≡ true
  lowest_passes x zero h = absurd (omega arith)
  lowest_passes x (suc n) h = by (t x) refl (λ l. lowest_passes (suc x) n l)
    where
      by : (b : Bool) → t x ≡ b → (lowest t (suc x) n < suc x + n → t (lowest t (suc x) n) ≡ true) → t (lowest t x (suc n)) ≡ true
      by true e more = rw e e
      by false e more = let k : lowest t (suc x) n < x + suc n = rw e at h in rw e (more (omega arith))

  -- none that passes is lower
  pub lowest_least : (x n y : ℕ) → x ≤ y → t y ≡ true → lowest t x n ≤ y
  lowest_least x zero y l h = l
  lowest_least x (suc n) y l h = by (t x) refl (λ k. lowest_least (suc x) n y k h)
    where
      by : (b : Bool) → t x ≡ b → (suc x ≤ y → lowest t (suc x) n ≤ y) → cond b x (lowest t (suc x) n) ≤ y
      by true e more = l
      by false e more = elim (ℕ_discrete x y) [
        | yes q ↦ absurd (true≢false (sym h ∙ ap t (sym q) ∙ e))
        | no d ↦ more (omega (arith, d))
      ]

  pub lowest-none : (x n y : ℕ) → x + n ≤ lowest t x n → x ≤ y → y < x + n → t y ≡ false
  lowest-none x n y h l u = untrue (t y) (λ e. let k = lowest_least x n y l e in omega arith)

  pub lowest-is : (x n y : ℕ) → x ≤ y → y < x + n → t y ≡ true → ((z : ℕ) → x ≤ z → z < x + n → t z ≡ true → y ≤ z) → lowest t x n ≡ y
  lowest-is x n y l u h least =
      let below = lowest_least x n y l h in
      let above = least (lowest t x n) (lowest-from x n) (omega arith) (lowest_passes x n (omega arith)) in
      omega arith

  pub lowest_skip : (x d n : ℕ) → ((y : ℕ) → x ≤ y → y < x + d → t y ≡ false) → lowest t x (d + n) ≡ lowest t (x + d) n
  lowest_skip x zero n h = rw (zero-add n, add-zero x)
  lowest_skip x (suc d) n h =
      let right : x + suc d ≡ suc x + d = omega arith in
      rw (suc-add d n, right, h x (omega arith) (omega arith)) (lowest_skip (suc x) d n (λ y l u. h y (omega arith) (omega arith)))

-- ---- the placing, by its places
module _ (f count : ℕ) (left right : ℕ → ℕ) where
  -- a variable is placed before place n of an order
  abbrev pub Early : List ℕ → ℕ → ℕ → Type 0
  Early order n x = (x < f) ⊎ ((m : ℕ) × (m < n) × (get_or order m 0 ≡ x))

  module _ (order : List ℕ) (n : ℕ) (within : n ≤ length order) where
    taken : (x : ℕ) → member x (take n order) ≡ true → (m : ℕ) × (m < n) × (get_or order m 0 ≡ x)
    taken x h =
        let i = index_stands x (take n order) h in
        let l : index_of x (take n order) < n = rw (length-take-le n order within) at i.0 in
        (index_of x (take n order), l, sym (get_or-take n order (index_of x (take n order)) 0 l) ∙ i.1)

    taken-member : (x m : ℕ) → m < n → get_or order m 0 ≡ x → member x (take n order) ≡ true
    taken-member x m l h =
        member-stands x (take n order) m (rw (length-take-le n order within) l) (get_or-take n order m 0 l ∙ h)

    placed_early : (x : ℕ) → is_placed f count left right (take n order) x ≡ true → Early order n x
    placed_early x h = by (ltb x f) refl
      where
        by : (b : Bool) → ltb x f ≡ b → Early order n x
        by true e = inl (ltb-true x f e)
        by false e = inr (taken x (rw e at h))

    early_placed : (x : ℕ) → Early order n x → is_placed f count left right (take n order) x ≡ true
    early_placed x (inl l) = rw (lt-ltb x f l)
    early_placed x (inr s) = rw (taken-member x s.0 s.1 s.2) (or-true (ltb x f))

    -- the test says what Ready says: a gate can take place n if it is not placed before, and its operands are
    pub ready_tested : (x : ℕ) → is_ready f count left right (take n order) x ≡ true
        → ((m : ℕ) → m < n → get_or order m 0 ≡ x → ⊥) × Early order n (left x) × Early order n (right x)
    ready_tested x h =
        let placed = is_placed f count left right (take n order) in
        let b = both (not (member x (take n order))) (placed (left x) && placed (right x)) h in
        let o = both (placed (left x)) (placed (right x)) b.1 in
        let new = not-true (member x (take n order)) b.0 in
        (λ m l e. true≢false (sym (taken-member x m l e) ∙ new), placed_early (left x) o.0, placed_early (right x) o.1)

    pub ready_test : (x : ℕ) → ((m : ℕ) → m < n → get_or order m 0 ≡ x → ⊥) → Early order n (left x) → Early order n (right x)
        → is_ready f count left right (take n order) x ≡ true
    ready_test x fresh l r = rw (new, early_placed (left x) l, early_placed (right x) r)
      where
        new : member x (take n order) ≡ false
        new = untrue (member x (take n order)) (λ e. let s = taken x e in fresh s.0 s.1 s.2)

  -- each gate of an order is the one chosen behind those before it
  abbrev pub Chosen : List ℕ → Type 0
  Chosen order = (n : ℕ) → n < length order
      → (get_or order n 0 ≡ chosen f count left right (take n order)) × (chosen f count left right (take n order) < f + count)

  module _ (order : List ℕ) (good : Chosen order) where
    -- the gate at place n could take it
    pub chosen-ready : (n : ℕ) → n < length order → is_ready f count left right (take n order) (get_or order n 0) ≡ true
    chosen-ready n l = rw (good n l).0 (lowest_passes (is_ready f count left right (take n order)) f count (good n l).1)

    pub chosen-inside : Inside f count order
    chosen-inside n l =
        let g = good n l in
        let from = lowest-from (is_ready f count left right (take n order)) f count in
        (omega (arith, g.0), omega (arith, g.0, g.1))

    pub chosen-once : Distinct order
    chosen-once j k l m e = by (ltb j k) (ltb k j) refl refl
      where
        later : (j k : ℕ) → j < k → k < length order → get_or order j 0 ≡ get_or order k 0 → ⊥
        later j k h m e = (ready_tested order k (omega arith) (get_or order k 0) (chosen-ready k m)).0 j h e

        by : (b c : Bool) → ltb j k ≡ b → ltb k j ≡ c → j ≡ k
        by true c p q = absurd (later j k (ltb-true j k p) m e)
        by false true p q = absurd (later k j (ltb-true k j q) l (sym e))
        by false false p q = let h = ltb-false j k p in let i = ltb-false k j q in omega arith

  none-chosen : Chosen []
  none-chosen n l = absurd (omega arith)

  more-chosen : (order : List ℕ) → Chosen order → chosen f count left right order < f + count → Chosen (order ++ (chosen f count left right order ∷ []))
  more-chosen order good u n l = elim (ℕ_discrete n (length order)) [
    | yes e ↦ rw (take_at order (z ∷ []) n (sym e), get_or_at order z [] 0 n (sym e)) (refl, u)
    | no d ↦
        let h : n < length order = (let i = length-append order (z ∷ []) in omega (arith, d)) in
        rw (take-append-le n order (z ∷ []) (omega arith), get_or-append order (z ∷ []) 0 n h) (good n h)
  ]
    where
      z : ℕ
      z = chosen f count left right order

  -- what a placing tells of its order
  abbrev pub Told : Placing → Type 0
  Told (ordered order) = Chosen order × (length order ≡ count)
  Told (waiting order) = Chosen order × (length order < count) × (f + count ≤ chosen f count left right order)

  told-from : (n : ℕ) (order : List ℕ) → Chosen order → n + length order ≡ count → Told (place_from f count left right n order)
  told-from zero order good e = (good, omega arith)
  told-from (suc n) order good e =
      by (ltb z (f + count)) refl (λ u. told-from n (order ++ (z ∷ [])) (more-chosen order good u) (let i = length-append order (z ∷ []) in omega arith))
    where
      z : ℕ
      z = chosen f count left right order

      by : (b : Bool) → ltb z (f + count) ≡ b → (z < f + count → Told (place_from f count left right n (order ++ (z ∷ []))))
          → Told (cond b (place_from f count left right n (order ++ (z ∷ []))) (waiting order))
      by true c more = more (ltb-true z (f + count) c)
      by false c more = (good, omega arith, ltb-false z (f + count) c)

  pub told : Told (place_from f count left right count [])
  told = told-from count [] none-chosen (omega arith)

  -- a whole order of chosen gates is the one placed
  pub whole-placed : (order : List ℕ) → Chosen order → length order ≡ count → (n k : ℕ) → n + k ≡ count
      → place_from f count left right n (take k order) ≡ ordered order
  whole-placed order good whole zero k e = ap ordered (take_all k order (omega arith))
  whole-placed order good whole (suc n) k e =
      let l : k < length order = omega arith in
      let g = good k l in
      let more = whole-placed order good whole n (suc k) (omega arith) in
      let z = chosen f count left right (take k order) in
      let s : take k order ++ (z ∷ []) ≡ take (suc k) order = rw (take-suc order k 0 l, g.0) in
      rw (lt-ltb z (f + count) g.1, s) more

  -- a gate that can take no place has an operand that is not placed
  pub waits-on : (order : List ℕ) → f + count ≤ chosen f count left right order → (x : ℕ) → f ≤ x → x < f + count → member x order ≡ false
      → (is_placed f count left right order (left x) ≡ false) ⊎ (is_placed f count left right order (right x) ≡ false)
  waits-on order none x l u m =
      by (is_placed f count left right order (left x)) refl (rw m at (lowest-none (is_ready f count left right order) f count x none l u))
    where
      by : (b : Bool) → is_placed f count left right order (left x) ≡ b → (b && is_placed f count left right order (right x)) ≡ false
          → (is_placed f count left right order (left x) ≡ false) ⊎ (is_placed f count left right order (right x) ≡ false)
      by true e h = inr h
      by false e h = inl e
