-- There is one order exactly where no gates wait on each other, and where gates can be ranked. Assumes nothing.
use mathlib.Core.Path.{◌≡◌, refl, sym, ap, ◌∙◌, subst}
use mathlib.Core.Bool.{Bool, true, false, not, ◌&&◌, ◌||◌, true≢false}
use mathlib.Core.List.{List}
use mathlib.Core.Logic.{◌⊎◌, inl, inr, ⊎_elim}
use Prim.Native.Nat.{ℕ, zero, suc, ◌+◌, ◌-◌, ◌<◌, ◌≤◌}
use native.Mathlib.Omega.{arith}
use lib.Dec.{ltb}
use lib.ListN.{length, get_or, take}
use borrow.Author.Tests.{lt-ltb, le-ltb, ltb-true, ltb-false, not-true}
use Rattle.netlist.specs.Layout.{gate_count, operands_at}
use Rattle.netlist.specs.Literals.{variable_of}
use Rattle.netlist.proofs.EachLaws.{both}
use Rattle.netlist.proofs.ValidLaws.{outline}
use Rattle.gate_order.specs.Loose.{first_gate, left_of, right_of, is_loose, Once}
use Rattle.gate_order.specs.Order.{Before, Order, Stuck}
use Rattle.gate_order.specs.Placing.{member, index_of, Placing, ordered, waiting, is_placed, is_ready, placing_of}
use Rattle.gate_order.proofs.LooseLaws.{loose_outline, loose-variables}
use Rattle.gate_order.proofs.PlacingLaws.{index_stands, index_at, all_stand, some-missing, lowest_least, lowest-is, ready_tested, ready_test, Chosen, chosen-ready, chosen-inside, chosen-once, Told, told, whole-placed, waits-on}

module _ (loose : List ℕ) where
  -- the gates, and the variables of the operands of gate x
  abbrev first : ℕ
  first = first_gate loose

  abbrev count : ℕ
  count = gate_count loose

  abbrev left : ℕ → ℕ
  left x = variable_of (left_of loose x)

  abbrev right : ℕ → ℕ
  right x = variable_of (right_of loose x)

  -- as many gates as the file has, none of them twice, are all of them
  pub once-all : (order : List ℕ) → Once loose order → length order ≡ gate_count loose
      → (x : ℕ) → first_gate loose ≤ x → x < first_gate loose + gate_count loose → (k : ℕ) × (k < length order) × (get_or order k 0 ≡ x)
  once-all order o whole x l u =
      let i = index_stands x order (all_stand first count order o.inside o.once whole x l u) in
      (index_of x order, i.0, i.1)

  -- ---- an order has at each place the gate that placing chooses
  chosen-order : (order : List ℕ) → Chosen first count left right order → length order ≡ count → Order loose order
  chosen-order order good whole = record {
    whole = whole;
    ready = λ n l.
        let i = chosen-inside first count left right order good n (omega arith) in
        let c = chosen-ready first count left right order good n (omega arith) in
        let r = ready_tested first count left right order n (omega arith) (get_or order n 0) c in
        record { from = i.0; to = i.1; fresh = r.0; left = r.1; right = r.2 };
    lowest = λ n x l r.
        let t = ready_test first count left right order n (omega arith) x r.fresh r.left r.right in
        let least = lowest_least (is_ready first count left right (take n order)) first count x r.from t in
        let here = (good n (omega arith)).0 in
        omega arith;
  }

  order-chosen : (order : List ℕ) → Order loose order → Chosen first count left right order
  order-chosen order o n l =
      let r = o.ready n m in
      let t = ready_test first count left right order n (omega arith) (get_or order n 0) r.fresh r.left r.right in
      let e = lowest-is (is_ready first count left right (take n order)) first count (get_or order n 0) r.from r.to t least in
      (sym e, omega (arith, e, r.to))
    where
      m : n < count
      m = let w = o.whole in omega arith

      least : (x : ℕ) → first ≤ x → x < first + count → is_ready first count left right (take n order) x ≡ true → get_or order n 0 ≤ x
      least x from to h =
          let r = ready_tested first count left right order n (omega arith) x h in
          o.lowest n x m (record { from = from; to = to; fresh = r.0; left = r.1; right = r.2 })

  pub placing_order : (order : List ℕ) → placing_of loose ≡ ordered order → Order loose order
  placing_order order e =
      let t = subst (Told first count left right) e (told first count left right) in
      chosen-order order t.0 t.1

  pub order_placing : (order : List ℕ) → Order loose order → placing_of loose ≡ ordered order
  order_placing order o = whole-placed first count left right order (order-chosen order o) o.whole count 0 (omega arith)

  pub one-order : (o1 o2 : List ℕ) → Order loose o1 → Order loose o2 → o1 ≡ o2
  one-order o1 o2 a b = ap order_of (sym (order_placing o1 a) ∙ order_placing o2 b)
    where
      order_of : Placing → List ℕ
      order_of (ordered order) = order
      order_of (waiting order) = order

  pub order-once : (order : List ℕ) → Order loose order → Once loose order
  order-once order o = record {
    inside = chosen-inside first count left right order (order-chosen order o);
    once = chosen-once first count left right order (order-chosen order o);
  }

  -- a gate's index is its place
  pub placed_at : (order : List ℕ) → Order loose order → (m x : ℕ) → m < gate_count loose → get_or order m 0 ≡ x → index_of x order ≡ m
  placed_at order o m x l e = ap (λ (z : ℕ). index_of z order) (sym e) ∙ index_at order (order-once order o).once m (omega (arith, o.whole))

  -- ---- gates that wait on each other are in no order
  pub not-both : (order : List ℕ) → Order loose order → Stuck loose → ⊥
  not-both order o s =
      let g = s.gates s.one s.some in
      let k = once-all order (order-once order o) o.whole s.one g.0 g.1 in
      below (suc k.0) k.0 (omega arith) (let w = o.whole in omega (arith, k.1)) (ap s.waits k.2 ∙ s.some)
    where
      operand : (n x : ℕ) → ((m : ℕ) → m < n → s.waits (get_or order m 0) ≡ true → ⊥) → Before loose order n x → s.waits x ≡ true → ⊥
      operand n x none (inl l) w = let g = s.gates x w in omega (arith, l, g.0)
      operand n x none (inr b) w = none b.0 b.1 (ap s.waits b.2 ∙ w)

      -- none of the first n gates of the order waits
      below : (n k : ℕ) → k < n → k < count → s.waits (get_or order k 0) ≡ true → ⊥
      below zero k l u w = omega arith
      below (suc n) k l u w =
          let none : (m : ℕ) → m < k → s.waits (get_or order m 0) ≡ true → ⊥ = λ m h. below n m (omega arith) (omega arith) in
          let r = o.ready k u in
          ⊎_elim (operand k (left (get_or order k 0)) none r.left) (operand k (right (get_or order k 0)) none r.right) (s.on (get_or order k 0) w)

  -- ---- gates can be ranked, each above its operands, exactly where they have an order

  -- a variable is no gate's, or one of lower rank than that of gate k
  abbrev pub Lower : (ℕ → ℕ) → ℕ → ℕ → Type 0
  Lower rank k y = (y < first_gate loose) ⊎ (rank y < rank (first_gate loose + k))

  -- both operands of gate k are such
  abbrev pub BothLower : (ℕ → ℕ) → ℕ → Type 0
  BothLower rank k = Lower rank k (variable_of (get_or loose (operands_at loose k) 0)) × Lower rank k (variable_of (get_or loose (operands_at loose k + 1) 0))

  pub rank_free : (rank : ℕ → ℕ) → ((k : ℕ) → k < gate_count loose → BothLower rank k) → Stuck loose → ⊥
  rank_free rank ranked s = below (suc (rank s.one)) s.one (omega arith) s.some
    where
      operand : (n x y : ℕ) → ((z : ℕ) → rank z < n → s.waits z ≡ true → ⊥) → first ≤ x → rank x ≤ n → Lower rank (x - first) y → s.waits y ≡ true → ⊥
      operand n x y none f l (inl h) w = let g = s.gates y w in omega (arith, h, g.0)
      operand n x y none f l (inr h) w =
          let e : first + (x - first) ≡ x = omega arith in
          let lower : rank y < rank x = rw e at h in
          none y (omega arith) w

      -- none of rank below n waits
      below : (n x : ℕ) → rank x < n → s.waits x ≡ true → ⊥
      below zero x l w = omega arith
      below (suc n) x l w =
          let g = s.gates x w in
          let b = ranked (x - first) (omega (arith, g.0, g.1)) in
          ⊎_elim (operand n x (left x) (below n) g.0 (omega arith) b.0) (operand n x (right x) (below n) g.0 (omega arith) b.1) (s.on x w)

  -- the places of an order rank its gates
  pub order-ranks : (order : List ℕ) → Order loose order → (k : ℕ) → k < gate_count loose → BothLower (λ x. index_of x order) k
  order-ranks order o k l =
      let h = once-all order (order-once order o) o.whole (first + k) (omega arith) (omega arith) in
      let u : h.0 < count = omega (arith, h.1, o.whole) in
      let r = o.ready h.0 u in
      let e : first + k - first ≡ k = omega arith in
      let a : Before loose order h.0 (left (first + k)) = rw h.2 at r.left in
      let b : Before loose order h.0 (right (first + k)) = rw h.2 at r.right in
      (early h.0 u h.2 _ (rw e at a), early h.0 u h.2 _ (rw e at b))
    where
      early : (n : ℕ) → n < count → get_or order n 0 ≡ first + k → (y : ℕ) → Before loose order n y → Lower (λ x. index_of x order) k y
      early n u e y (inl h) = inl h
      early n u e y (inr b) = inr (let c = placed_at order o n (first + k) u e in let d = placed_at order o b.0 y (omega (arith, b.1)) b.2 in omega (arith, b.1))

  -- ---- the gates that placing leaves wait on each other
  module _ (order : List ℕ) where
    abbrev waits : ℕ → Bool
    waits x = not (is_placed first count left right order x) && ltb x (first + count)

    waits-gate : (x : ℕ) → waits x ≡ true → (first ≤ x) × (x < first + count) × (member x order ≡ false)
    waits-gate x h =
        let b = both (not (is_placed first count left right order x)) (ltb x (first + count)) h in
        by (ltb x first) refl (not-true (is_placed first count left right order x) b.0) (ltb-true x (first + count) b.1)
      where
        by : (b : Bool) → ltb x first ≡ b → (b || member x order) ≡ false → x < first + count
            → (first ≤ x) × (x < first + count) × (member x order ≡ false)
        by true e p u = absurd (true≢false p)
        by false e p u = (ltb-false x first e, u, p)

    unplaced_waits : (x : ℕ) → is_placed first count left right order x ≡ false → x < first + count → waits x ≡ true
    unplaced_waits x p u = rw (p, lt-ltb x (first + count) u)

    pub placing_stuck : is_loose loose ≡ true → placing_of loose ≡ waiting order → Stuck loose
    placing_stuck loosely e =
        let t = subst (Told first count left right) e (told first count left right) in
        let m = some-missing first count order (chosen-inside first count left right order t.0) (chosen-once first count left right order t.0) t.1 in
        record {
          waits = waits;
          gates = λ x h. let g = waits-gate x h in (g.0, g.1);
          one = m.0;
          some = unplaced_waits m.0 (rw (le-ltb m.0 first m.1, m.3)) m.2;
          on = λ x h.
              let g = waits-gate x h in
              let v = variables x g.0 g.1 in
              elim (waits-on first count left right order t.2 x g.0 g.1 g.2) [
                | inl p ↦ inl (unplaced_waits (left x) p v.0)
                | inr p ↦ inr (unplaced_waits (right x) p v.1)
              ];
        }
      where
        variables : (x : ℕ) → first ≤ x → x < first + count
            → (left x < first + count) × (right x < first + count)
        variables x l u =
            let v = loose-variables loose loosely (x - first) (omega arith) in
            let sum = (outline loose (loose_outline loose loosely)).sum in
            (omega (arith, v.0), omega (arith, v.1))
