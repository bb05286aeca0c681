-- The netlist of loose numbers is a netlist, and means what the file means; where a lower gate stands later.
-- Assumes nothing.
use mathlib.Core.Path.{◌≡◌, refl, sym, ap, ap₂, subst, ◌∙◌}
use mathlib.Core.Bool.{Bool, true, false, ◌&&◌, true≢false, and_comm}
use mathlib.Core.List.{List, [], ◌∷◌}
use mathlib.Core.Logic.{◌⊎◌, inl, inr}
use Prim.Native.Nat.{ℕ, zero, suc, ◌+◌, ◌-◌, ◌*◌, ◌<◌, ◌≤◌}
use native.Mathlib.Decide.{dec_lt}
use native.Mathlib.Omega.{arith}
use lib.ListN.{length, get_or}
use lib.Seq.{ext_get_or}
use borrow.Author.Tests.{le-leb, lt-ltb}
use Rattle.netlist.specs.Layout.{maximum, input_count, latch_count, output_count, gate_count, next_at, reset_at, output_at, operands_at, input_variable, latch_variable, gate_variable}
use Rattle.netlist.specs.Literals.{literal_of, variable_of}
use Rattle.netlist.specs.Valid.{is_free, latch_ok, free_count, gate_ok, is_netlist}
use Rattle.netlist.specs.Meaning.{bools, signed, lit_of, values_of, next_of, output_of}
use Rattle.netlist.specs.Aiger.{Satisfies, OneLane}
use Rattle.netlist.proofs.LiteralLaws.{literal-plain}
use Rattle.netlist.proofs.ValidLaws.{outline}
use Rattle.netlist.proofs.AigerLaws.{means}
use Rattle.netlist.proofs.OutlineLaws.{literal-within, latch_ok_lem}
use Rattle.netlist.proofs.MeaningLaws.{nexts_at}
use Rattle.gate_order.specs.Loose.{first_gate, left_of, right_of, is_loose}
use Rattle.gate_order.specs.Order.{Before, Ready, Order, NewVariable, NewLiteral, PlacedAs}
use Rattle.gate_order.specs.Meaning.{SameCycle, SameMeaning}
use Rattle.gate_order.proofs.LooseLaws.{loose_outline}
use Rattle.gate_order.proofs.OrderLaws.{once-all, order-once}

-- ---- literals, latches and lists

literal-below : (v lit : ℕ) → variable_of lit < v → lit < literal_of v false
unfolding variable_of
literal-below v lit h = let e = literal-plain v in omega arith

module _ (net : List ℕ) (k : ℕ) where
  gate_ok_lem : get_or net (operands_at net k) 0 < literal_of (gate_variable net k) false → get_or net (operands_at net k + 1) 0 ≤ get_or net (operands_at net k) 0
      → gate_ok net k ≡ true
  unfolding gate_ok
  gate_ok_lem h o = ap₂ ◌&&◌ (lt-ltb _ _ h) (le-leb _ _ o)

-- the same resets, as many uninitialised latches
free-same : (net loose : List ℕ) (k : ℕ) → ((j : ℕ) → j < k → get_or net (reset_at j) 0 ≡ get_or loose (reset_at j) 0) → free_count net k ≡ free_count loose k
unfolding free_count is_free
free-same net loose zero h = refl
free-same net loose (suc k) h = rw (free-same net loose k (λ j l. h j (omega arith)), h k (omega arith))

-- a list whose elements are in a relation with their places
listed : (n : ℕ) (R : ℕ → Bool → Type 0) → ((j : ℕ) → j < n → (b : Bool) × R j b)
    → (v : List Bool) × (length v ≡ n) × ((j : ℕ) → j < n → R j (get_or v j false))
listed zero R h = ([], refl, λ j l. absurd (omega arith))
listed (suc n) R h =
    let b = h zero (omega arith) in
    let r = listed n (λ j. R (suc j)) (λ j l. h (suc j) (omega arith)) in
    (b.0 ∷ r.0, ap suc r.1, at b r)
  where
    at : (b : (b : Bool) × R zero b) (r : (v : List Bool) × (length v ≡ n) × ((j : ℕ) → j < n → R (suc j) (get_or v j false)))
        → (j : ℕ) → j < suc n → R j (get_or (b.0 ∷ r.0) j false)
    at b r zero l = b.1
    at b r (suc j) l = r.2 j (omega arith)

first-same : (v w : List Bool) → 0 < length w → get_or w 0 false ≡ get_or v 0 false → get_or v 0 true ≡ false → get_or w 0 true ≡ false
first-same v [] n e c = absurd (omega arith)
first-same [] (b ∷ bs) n e c = absurd (true≢false c)
first-same (a ∷ rest) (b ∷ bs) n e c = e ∙ c

-- the equation of gate k
abbrev Gate : List ℕ → List Bool → ℕ → Type 0
Gate net v k = get_or v (gate_variable net k) false ≡ (lit_of bools v (get_or net (operands_at net k) 0) && lit_of bools v (get_or net (operands_at net k + 1) 0))

-- where v satisfies p's equations, w satisfies q's, with the same inputs and latches, if it does those of the gates
carried : (p q : List ℕ) (ins latches v w : List Bool) → Satisfies p ins latches v
    → maximum q ≡ maximum p → input_count q ≡ input_count p → latch_count q ≡ latch_count p → length w ≡ length v
    → ((x : ℕ) → x < first_gate p → get_or w x false ≡ get_or v x false) → ((k : ℕ) → k < gate_count q → Gate q w k) → Satisfies q ins latches w
carried p q ins latches v w s em ei el en front gates =
    let n = s.whole in
    record {
      whole = en ∙ s.whole ∙ ap (λ (m : ℕ). m + 1) (sym em);
      constant = first-same v w (omega arith) (front 0 (omega arith)) s.constant;
      inputs = λ k l. front (input_variable k) (omega arith) ∙ s.inputs k (omega arith);
      latched = λ k l.
          let e : latch_variable q k ≡ latch_variable p k = omega arith in
          ap (λ (x : ℕ). get_or w x false) e ∙ front (latch_variable p k) (omega arith) ∙ s.latched k (omega arith);
      gates = gates;
    }

-- ---- old and new variables

module _ (loose order : List ℕ) where
  -- r0 and r1 are the new operands of the gate of old variable x, either way round
  abbrev Operands : ℕ → ℕ → ℕ → Type 0
  Operands x r0 r1 =
      (NewLiteral loose order (left_of loose x) r0 × NewLiteral loose order (right_of loose x) r1)
      ⊎ (NewLiteral loose order (left_of loose x) r1 × NewLiteral loose order (right_of loose x) r0)

  new_inside : (x y : ℕ) → NewVariable loose order x y → y < first_gate loose + gate_count loose
  new_inside x y (inl (l, e)) = omega arith
  new_inside x y (inr (m, l, a, e)) = omega arith

  -- each new variable has one old variable
  old_of : (y : ℕ) → y < first_gate loose + gate_count loose → (x : ℕ) × NewVariable loose order x y
  old_of y u = elim (dec_lt y (first_gate loose)) [
    | yes l ↦ (y, inl (l, refl))
    | no n ↦ (get_or order (y - first_gate loose) 0, inr (y - first_gate loose, omega arith, refl, omega arith))
  ]

  old_one : (x y z : ℕ) → NewVariable loose order x z → NewVariable loose order y z → x ≡ y
  old_one x y z (inl (l, e)) (inl (m, f)) = sym e ∙ f
  old_one x y z (inl (l, e)) (inr (k, m, a, f)) = absurd (omega arith)
  old_one x y z (inr (k, m, a, f)) (inl (l, e)) = absurd (omega arith)
  old_one x y z (inr (j, l, a, e)) (inr (k, m, b, f)) = let s : j ≡ k = omega arith in sym a ∙ ap (λ (i : ℕ). get_or order i 0) s ∙ b

  module _ (d : Order loose order) where
    same_place : (j k : ℕ) → j < gate_count loose → k < gate_count loose → get_or order j 0 ≡ get_or order k 0 → j ≡ k
    same_place j k h l e = let w = d.whole in (order-once loose order d).once j k (omega arith) (omega arith) e

    -- each gate has a place
    place_of : (x : ℕ) → first_gate loose ≤ x → x < first_gate loose + gate_count loose → (k : ℕ) × (k < gate_count loose) × (get_or order k 0 ≡ x)
    place_of x l u = subst (λ (n : ℕ). (k : ℕ) × (k < n) × (get_or order k 0 ≡ x)) d.whole (once-all loose order (order-once loose order d) d.whole x l u)

    old_inside : (x y : ℕ) → NewVariable loose order x y → x < first_gate loose + gate_count loose
    old_inside x y (inl (l, e)) = omega arith
    old_inside x y (inr (m, l, a, e)) = let r = (d.ready m l).to in omega arith

    -- each old variable has one new variable
    new_of : (x : ℕ) → x < first_gate loose + gate_count loose → (y : ℕ) × NewVariable loose order x y
    new_of x u = elim (dec_lt x (first_gate loose)) [
      | yes l ↦ (x, inl (l, refl))
      | no n ↦ let k = place_of x (omega arith) u in (first_gate loose + k.0, inr (k.0, k.1, k.2, refl))
    ]

    new_one : (x y z : ℕ) → NewVariable loose order x y → NewVariable loose order x z → y ≡ z
    new_one x y z (inl (l, e)) (inl (m, f)) = e ∙ sym f
    new_one x y z (inl (l, e)) (inr (k, m, a, f)) = absurd (let r = (d.ready k m).from in omega arith)
    new_one x y z (inr (k, m, a, f)) (inl (l, e)) = absurd (let r = (d.ready k m).from in omega arith)
    new_one x y z (inr (j, l, a, e)) (inr (k, m, b, f)) = let s = same_place j k l m (a ∙ sym b) in omega arith

    -- what is placed before place n has a new variable below that of place n
    new_before : (n x y : ℕ) → n ≤ gate_count loose → Before loose order n x → NewVariable loose order x y → y < first_gate loose + n
    new_before n x y h (inl b) new = let e = new_one x x y (inl (b, refl)) new in omega arith
    new_before n x y h (inr (j, b, c)) new = let e = new_one x (first_gate loose + j) y (inr (j, omega arith, c, refl)) new in omega arith

    literal-before : (n old new : ℕ) → n ≤ gate_count loose → Before loose order n (variable_of old) → NewLiteral loose order old new
        → new < literal_of (first_gate loose + n) false
    literal-before n old new h b l =
        literal-below (first_gate loose + n) new (new_before n (variable_of old) (variable_of new) h b l.variable)

    gate-below : (n x r0 r1 : ℕ) → n ≤ gate_count loose → Ready loose order n x → Operands x r0 r1 → r0 < literal_of (first_gate loose + n) false
    gate-below n x r0 r1 h r (inl (a, b)) = literal-before n (left_of loose x) r0 h r.left a
    gate-below n x r0 r1 h r (inr (a, b)) = literal-before n (right_of loose x) r0 h r.right b

    -- a variable has one of the places from n up to m
    abbrev From : ℕ → ℕ → ℕ → Type 0
    From n m x = (j : ℕ) × (n ≤ j) × (j < m) × (get_or order j 0 ≡ x)

    before-from : (n m x : ℕ) → Before loose order m x → Before loose order n x ⊎ From n m x
    before-from n m x (inl l) = inl (inl l)
    before-from n m x (inr (j, l, e)) = elim (dec_lt j n) [ yes b ↦ inl (inr (j, b, e)) | no b ↦ inr (j, omega (arith, b), l, e) ]

    -- an operand of gate x does
    abbrev OperandFrom : ℕ → ℕ → ℕ → Type 0
    OperandFrom n m x = From n m (variable_of (left_of loose x)) ⊎ From n m (variable_of (right_of loose x))

    -- a gate that is ready at place m, and lower than the one at place n, was not ready there
    lower-from : (n m x : ℕ) → n ≤ m → n < gate_count loose → Ready loose order m x → x < get_or order n 0 → OperandFrom n m x
    lower-from n m x l u r lower = by (before-from n m (variable_of (left_of loose x)) r.left) (before-from n m (variable_of (right_of loose x)) r.right)
      where
        by : Before loose order n (variable_of (left_of loose x)) ⊎ From n m (variable_of (left_of loose x))
            → Before loose order n (variable_of (right_of loose x)) ⊎ From n m (variable_of (right_of loose x)) → OperandFrom n m x
        by (inr a) b = inl a
        by (inl a) (inr b) = inr b
        by (inl a) (inl b) =
            let k = d.lowest n x u (record { from = r.from; to = r.to; fresh = λ j h. r.fresh j (omega arith); left = a; right = b }) in
            absurd (omega arith)

    literal-from : (n m old new : ℕ) → m ≤ gate_count loose → From n m (variable_of old) → NewLiteral loose order old new → 2 * (first_gate loose + n) ≤ new
    unfolding variable_of
    literal-from n m old new h (j, b, u, e) l =
        let v = new_one (variable_of old) (first_gate loose + j) (variable_of new) (inr (j, omega arith, e, refl)) l.variable in
        omega arith

    -- the larger of its new operands is no lower than the gate at place n
    gate-from : (n m x r0 r1 : ℕ) → m ≤ gate_count loose → OperandFrom n m x → r1 ≤ r0 → Operands x r0 r1 → 2 * (first_gate loose + n) ≤ r0
    gate-from n m x r0 r1 h (inl f) larger (inl (a, b)) = literal-from n m (left_of loose x) r0 h f a
    gate-from n m x r0 r1 h (inl f) larger (inr (a, b)) = let k = literal-from n m (left_of loose x) r1 h f a in omega arith
    gate-from n m x r0 r1 h (inr f) larger (inl (a, b)) = let k = literal-from n m (right_of loose x) r1 h f b in omega arith
    gate-from n m x r0 r1 h (inr f) larger (inr (a, b)) = literal-from n m (right_of loose x) r0 h f b

  -- ---- v values the old variables as u does the new ones

  abbrev Match : List Bool → List Bool → Type 0
  Match v u = (x y : ℕ) → NewVariable loose order x y → get_or v x false ≡ get_or u y false

  module _ (v u : List Bool) (m : Match v u) where
    lit_match : (old new : ℕ) → NewLiteral loose order old new → lit_of bools v old ≡ lit_of bools u new
    unfolding lit_of
    lit_match old new l = ap₂ (signed bools) (sym l.sign) (m (variable_of old) (variable_of new) l.variable)

    gate_match : (x r0 r1 : ℕ) → Operands x r0 r1
        → (lit_of bools v (left_of loose x) && lit_of bools v (right_of loose x)) ≡ (lit_of bools u r0 && lit_of bools u r1)
    gate_match x r0 r1 (inl (a, b)) = ap₂ ◌&&◌ (lit_match (left_of loose x) r0 a) (lit_match (right_of loose x) r1 b)
    gate_match x r0 r1 (inr (a, b)) =
        ap₂ ◌&&◌ (lit_match (left_of loose x) r1 a) (lit_match (right_of loose x) r0 b) ∙ and_comm (lit_of bools u r1) (lit_of bools u r0)

  module _ (n : ℕ) (count : n ≡ first_gate loose + gate_count loose) where
    matched_new : (v : List Bool) → (u : List Bool) × (length u ≡ n) × Match v u
    matched_new v =
        let r = listed n (λ y b. (x : ℕ) → NewVariable loose order x y → get_or v x false ≡ b)
        (λ y l. let x = old_of y (omega arith) in (get_or v x.0 false, λ z h. ap (λ (i : ℕ). get_or v i false) (old_one z x.0 y h x.1))) in
        (r.0, r.1, λ x y h. r.2 y (let i = new_inside x y h in omega arith) x h)

    matched_old : Order loose order → (u : List Bool) → (v : List Bool) × (length v ≡ n) × Match v u
    matched_old d u =
        let r = listed n (λ x b. (y : ℕ) → NewVariable loose order x y → b ≡ get_or u y false)
        (λ x l. let y = new_of d x (omega arith) in (get_or u y.0 false, λ z h. ap (λ (i : ℕ). get_or u i false) (new_one d x y.0 z y.1 h))) in
        (r.0, r.1, λ x y h. r.2 x (let i = old_inside d x y h in omega arith) y h)

-- ---- THE RESULT

pub placed-lowest : (loose net : List ℕ) (p : PlacedAs loose net) (n m : ℕ) → n < m → m < gate_count loose
    → get_or p.order m 0 < get_or p.order n 0 → 2 * (first_gate loose + n) ≤ get_or net (operands_at loose m) 0
placed-lowest loose net p n m l u lower =
    let x = get_or p.order m 0 in
    let f = lower-from loose p.order p.ordered n m x (omega arith) (omega arith) (p.ordered.ready m u) lower in
    let g = p.gate m u in
    gate-from loose p.order p.ordered n m x _ _ (omega arith) f g.larger g.operands

module _ (loose net : List ℕ) (ok : is_loose loose ≡ true) (p : PlacedAs loose net) where
  abbrev order : List ℕ
  order = p.order

  maximum-same : maximum net ≡ maximum loose
  maximum-same = p.header 0 (omega arith)

  inputs-same : input_count net ≡ input_count loose
  inputs-same = p.header 1 (omega arith)

  latches-same : latch_count net ≡ latch_count loose
  latches-same = p.header 2 (omega arith)

  outputs-same : output_count net ≡ output_count loose
  outputs-same = p.header 3 (omega arith)

  gates-same : gate_count net ≡ gate_count loose
  gates-same = p.header 4 (omega arith)

  new_within : (old new : ℕ) → NewLiteral loose order old new → new ≤ literal_of (maximum net) true
  new_within old new l =
      let s = (outline loose (loose_outline loose ok)).sum in
      let i = new_inside loose order (variable_of old) (variable_of new) l.variable in
      literal-within (maximum net) new (omega (arith, maximum-same))

  operands_at_lem : (m : ℕ) → operands_at net m ≡ operands_at loose m
  operands_at_lem m = omega (arith, latches-same, outputs-same)

  output_at_lem : (k : ℕ) → output_at net k ≡ output_at loose k
  output_at_lem k = omega (arith, latches-same)

  gate-taken : (m : ℕ) → m < gate_count net → gate_ok net m ≡ true
  gate-taken m l =
      let h : m < gate_count loose = rw (← gates-same) l in
      let g = p.gate m h in
      let b = gate-below loose order p.ordered m (get_or order m 0) _ _ (omega arith) (p.ordered.ready m h) g.operands in
      gate_ok_lem net m (rw (operands_at_lem m, inputs-same, latches-same) b) (rw (operands_at_lem m) g.larger)

  latch_taken : (k : ℕ) → k < latch_count net → latch_ok net k ≡ true
  latch_taken k l =
      let h : k < latch_count loose = rw (← latches-same) l in
      latch_ok_lem net k (new_within (get_or loose (next_at k) 0) (get_or net (next_at k) 0) (p.next k h))
      (rw (p.reset k h, inputs-same) ((outline loose (loose_outline loose ok)).resets k h))

  pub placed-netlist : is_netlist net ≡ true
  placed-netlist =
      let o = outline loose (loose_outline loose ok) in
      let s = p.size in
      let em = maximum-same in
      let ei = inputs-same in
      let el = latches-same in
      let eo = outputs-same in
      let ea = gates-same in
      (means net).taken (omega arith)
      ((means net).either (maximum net) (input_count net) (latch_count net) (output_count net) (gate_count net)
      (let e = o.sum in omega arith) (let e = o.small in omega arith) (let e = o.some in omega arith) (let e = o.few in omega arith)
      (let e = o.output in omega arith) (let e = o.most in omega arith))
      (omega arith)
      (λ k l. rw (output_at_lem k) (new_within (get_or loose (output_at loose k) 0) (get_or net (output_at loose k) 0) (p.output k (omega arith))))
      latch_taken
      (rw (latches-same, free-same net loose (latch_count loose) p.reset) o.free)
      gate-taken

  module _ (ins latches : List Bool) (v u : List Bool) (m : Match loose order v u) where
    -- variable 0, the inputs and the latches stay
    front_match : (x : ℕ) → x < first_gate loose → get_or v x false ≡ get_or u x false
    front_match x l = m x x (inl (l, refl))

    -- the gate at place j has the value of its old one, and so have its operands
    place_match : (j : ℕ) → j < gate_count loose
        → get_or v (gate_variable loose (get_or order j 0 - first_gate loose)) false ≡ get_or u (gate_variable net j) false
    place_match j l =
        let from = (p.ordered.ready j l).from in
        m (gate_variable loose (get_or order j 0 - first_gate loose)) (gate_variable net j)
        (inr (j, l, omega arith, omega (arith, inputs-same, latches-same)))

    operands_match : (j : ℕ) → j < gate_count loose
        → (lit_of bools v (left_of loose (get_or order j 0)) && lit_of bools v (right_of loose (get_or order j 0)))
        ≡ (lit_of bools u (get_or net (operands_at net j) 0) && lit_of bools u (get_or net (operands_at net j + 1) 0))
    operands_match j l = rw (operands_at_lem j) (gate_match loose order v u m (get_or order j 0) _ _ (p.gate j l).operands)

    to_old : length v ≡ length u → Satisfies net ins latches u → Satisfies loose ins latches v
    to_old e s =
        let ei = inputs-same in
        let el = latches-same in
        carried net loose ins latches u v s (sym maximum-same) (sym inputs-same) (sym latches-same) e (λ x l. front_match x (omega arith)) gate
      where
        gate : (k : ℕ) → k < gate_count loose → Gate loose v k
        gate k l =
            let j = place_of loose order p.ordered (first_gate loose + k) (omega arith) (omega arith) in
            let i : get_or order j.0 0 - first_gate loose ≡ k = rw j.2 (omega arith) in
            subst (Gate loose v) i (place_match j.0 j.1 ∙ s.gates j.0 (rw gates-same j.1) ∙ sym (operands_match j.0 j.1))

    to_new : length u ≡ length v → Satisfies loose ins latches v → Satisfies net ins latches u
    to_new e s = carried loose net ins latches v u s maximum-same inputs-same latches-same e (λ x l. sym (front_match x l)) gate
      where
        gate : (j : ℕ) → j < gate_count net → Gate net u j
        gate j l =
            let h : j < gate_count loose = rw (← gates-same) l in
            let from = (p.ordered.ready j h).from in
            let to = (p.ordered.ready j h).to in
            sym (place_match j h) ∙ s.gates (get_or order j 0 - first_gate loose) (omega arith) ∙ operands_match j h

  module _ (ins latches : List Bool) (hi : length ins ≡ input_count loose) (hl : length latches ≡ latch_count loose) where
    abbrev U : List Bool
    U = values_of bools net ins latches

    lane : OneLane net ins latches
    lane = (means net).aiger placed-netlist ins latches (hi ∙ sym inputs-same) (hl ∙ sym latches-same)

    count : maximum loose + 1 ≡ first_gate loose + gate_count loose
    count = let s = (outline loose (loose_outline loose ok)).sum in omega arith

    -- the file's values, from the netlist's
    pulled : (v : List Bool) × (length v ≡ maximum loose + 1) × Match loose order v U
    pulled = matched_old loose order (maximum loose + 1) count p.ordered U

    -- any values of the file are those of the netlist
    pushed : (v : List Bool) → Satisfies loose ins latches v → Match loose order v U
    pushed v s =
        let w = matched_new loose order (maximum loose + 1) count v in
        let e = lane.only w.0 (to_new ins latches v w.0 w.2 (w.1 ∙ sym s.whole) s) in
        subst (Match loose order v) e w.2

    same-cycle : SameCycle loose net ins latches
    unfolding output_of next_of
    same-cycle =
        let n = lane.satisfies.whole in
        record {
          values = pulled.0;
          satisfies = to_old ins latches pulled.0 U pulled.2 (pulled.1 ∙ sym (n ∙ ap (λ (m : ℕ). m + 1) maximum-same)) lane.satisfies;
          only = λ v s. ext_get_or false v pulled.0 (s.whole ∙ sym pulled.1) (λ x l.
              let y = new_of loose order p.ordered x (let e = s.whole in let c = count in omega arith) in
              pushed v s x y.0 y.1 ∙ sym (pulled.2 x y.0 y.1));
          output = λ k l.
              lit_match loose order pulled.0 U pulled.2 (get_or loose (output_at loose k) 0) (get_or net (output_at loose k) 0) (p.output k l)
              ∙ ap (λ (i : ℕ). lit_of bools U (get_or net i 0)) (sym (output_at_lem k));
          next = λ k l.
              lit_match loose order pulled.0 U pulled.2 (get_or loose (next_at k) 0) (get_or net (next_at k) 0) (p.next k l)
              ∙ sym (nexts_at bools net (latch_count net) U false k (rw latches-same l));
        }

  pub placed-meaning : SameMeaning loose net
  placed-meaning = record { inputs = inputs-same; latches = latches-same; outputs = outputs-same; reset = p.reset; cycle = same-cycle }
