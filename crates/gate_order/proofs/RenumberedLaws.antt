-- The netlist of loose numbers, its gates in their order, is the renumbered one. Assumes nothing.
use mathlib.Core.Path.{◌≡◌, refl, sym, ap, ap₂, ◌∙◌}
use mathlib.Core.Bool.{Bool, true, false, cond}
use mathlib.Core.List.{List, [], ◌∷◌, ◌++◌}
use mathlib.Core.Logic.{◌⊎◌, inl, inr}
use Prim.Native.Nat.{ℕ, zero, suc, ◌+◌, ◌-◌, ◌*◌, ◌≤◌, ◌<◌, ◌%◌}
use native.Mathlib.Omega.{arith}
use native.Mathlib.Decide.{dec_lt, ℕ_discrete}
use borrow.Author.Tests.{lt-ltb, le-ltb, ltb-true, ltb-false, eq-eqb, ne_eqb}
use lib.Dec.{ltb}
use lib.ListN.{length, get_or, take}
use lib.Seq.{get_or-take, length-take-le}
use Rattle.text.proofs.WriterLaws.{joined_same}
use Rattle.netlist.specs.Layout.{maximum, input_count, latch_count, output_count, gate_count, next_at, reset_at, output_at, operands_at, size_of}
use Rattle.netlist.specs.Literals.{literal_of, variable_of, is_inverted}
use Rattle.netlist.specs.Valid.{is_netlist}
use Rattle.netlist.proofs.LiteralLaws.{variable-literal, inverted-literal}
use Rattle.netlist.proofs.ValidLaws.{Outline, outline, Valid, valid}
use Rattle.aiger_lines.proofs.LayoutLaws.{Pieces, pair_at, one_at, made}
use Rattle.aiger_lines.proofs.NetLaws.{Laid, laid}
use Rattle.gate_order.specs.Loose.{first_gate, left_of, right_of, is_loose}
use Rattle.gate_order.specs.Order.{Before, Order, NewVariable, NewLiteral, NewGate, PlacedAs}
use Rattle.gate_order.specs.Renumbered.{larger_first, new_variable, new_literal, new_latch, new_output, new_gate, renumbered}
use Rattle.gate_order.proofs.LooseLaws.{loose_outline, loose-variables}
use Rattle.gate_order.proofs.OrderLaws.{once-all, order-once, one-order, placed_at}

-- a literal is odd where it is its variable's inverse
pub literal_odd : (lit : ℕ) → lit % 2 ≡ cond (is_inverted lit) 1 0
unfolding is_inverted
literal_odd lit = elim (ℕ_discrete (lit % 2) 1) [ yes e ↦ rw (eq-eqb (lit % 2) 1 e) e | no d ↦ rw (ne_eqb (lit % 2) 1 d) (omega (arith, d)) ]

-- a literal is that of its variable and its sign
literal-whole : (lit : ℕ) → lit ≡ literal_of (variable_of lit) (is_inverted lit)
unfolding literal_of variable_of
literal-whole lit = let e = literal_odd lit in omega arith

-- ---- two operands, the larger first
two : {a b c d : ℕ} → a ≡ c → b ≡ d → a ∷ b ∷ [] ≡ c ∷ d ∷ []
two e f = rw (e, f)

pair_length : (a b : ℕ) → length (larger_first a b) ≡ 2
unfolding larger_first
pair_length a b = go (ltb a b)
  where
    go : (t : Bool) → length (cond t (b ∷ a ∷ []) (a ∷ b ∷ [])) ≡ 2
    go true = refl
    go false = refl

-- two numbers, the larger first, that are those operands either way round
pair_larger : (a b r0 r1 : ℕ) → r1 ≤ r0 → ((r0 ≡ a) × (r1 ≡ b)) ⊎ ((r1 ≡ a) × (r0 ≡ b)) → r0 ∷ r1 ∷ [] ≡ larger_first a b
unfolding larger_first
pair_larger a b r0 r1 h (inl e) = rw (le-ltb a b (omega (arith, e))) (two e.0 e.1)
pair_larger a b r0 r1 h (inr e) = elim (dec_lt a b) [
  | yes l ↦ rw (lt-ltb a b l) (two e.1 e.0)
  | no d ↦ rw (le-ltb a b (omega (arith, d))) (two (omega (arith, e, d)) (omega (arith, e, d)))
]

-- what holds of the operands, the larger first, holds of what stands at the two places
larger_pair : (a b : ℕ) → (P : ℕ → ℕ → Type 0) → (b ≤ a → P a b) → (a ≤ b → P b a) → P (get_or (larger_first a b) 0 0) (get_or (larger_first a b) 1 0)
unfolding larger_first
larger_pair a b P f g = go (ltb a b) refl
  where
    go : (t : Bool) → ltb a b ≡ t → P (get_or (cond t (b ∷ a ∷ []) (a ∷ b ∷ [])) 0 0) (get_or (cond t (b ∷ a ∷ []) (a ∷ b ∷ [])) 1 0)
    go true e = g (omega (arith, ltb-true a b e))
    go false e = f (ltb-false a b e)

-- ---- where its numbers stand
module _ (loose order : List ℕ) where
  pieces : Pieces (maximum loose) (input_count loose) (latch_count loose) (output_count loose) (gate_count loose) (new_latch loose order) (new_output loose order) (new_gate loose order)
  unfolding new_latch new_output new_gate
  pieces = record { latches = λ k l. refl; outputs = λ k l. refl; gates = λ k l. pair_length _ _ }

  lays : Laid (renumbered loose order) (new_latch loose order) (new_output loose order) (new_gate loose order)
  unfolding renumbered
  lays = laid (maximum loose) (input_count loose) (latch_count loose) (output_count loose) (gate_count loose) (new_latch loose order) (new_output loose order) (new_gate loose order) pieces

  pub length-renumbered : length (renumbered loose order) ≡ size_of loose
  unfolding renumbered
  length-renumbered = lays.size

  header-same : (k : ℕ) → k < 5 → get_or (renumbered loose order) k 0 ≡ get_or loose k 0
  unfolding renumbered
  header-same zero l = refl
  header-same (suc zero) l = refl
  header-same (suc (suc zero)) l = refl
  header-same (suc (suc (suc zero))) l = refl
  header-same (suc (suc (suc (suc zero)))) l = refl
  header-same (suc (suc (suc (suc (suc k))))) l = absurd (omega arith)

  -- ---- the new literal of an old one
  module _ (o : Order loose order) where
    -- there is one
    variable-one : (x y : ℕ) → NewVariable loose order x y → y ≡ new_variable loose order x
    unfolding new_variable
    variable-one x y (inl (l, e)) = rw (lt-ltb x (first_gate loose) l) e
    variable-one x y (inr (m, l, g, e)) =
        let f : first_gate loose ≤ x = omega (arith, (o.ready m l).from, g) in
        rw (le-ltb x (first_gate loose) f) (e ∙ ap (λ (n : ℕ). first_gate loose + n) (sym (placed_at loose order o m x l g)))

    variable_new : (x : ℕ) → x < first_gate loose + gate_count loose → NewVariable loose order x (new_variable loose order x)
    variable_new x u = elim (dec_lt x (first_gate loose)) [
      | yes l ↦ let n : NewVariable loose order x x = inl (l, refl) in rw (← (variable-one x x n)) n
      | no d ↦
          let h = once-all loose order (order-once loose order o) o.whole x (omega (arith, d)) u in
          let n : NewVariable loose order x (first_gate loose + h.0) = inr (h.0, omega (arith, h.1, o.whole), h.2, refl) in
          rw (← (variable-one x (first_gate loose + h.0) n)) n
    ]

    literal-one : (old new : ℕ) → NewLiteral loose order old new → new ≡ new_literal loose order old
    unfolding new_literal
    literal-one old new n = literal-whole new ∙ ap₂ literal_of (variable-one (variable_of old) (variable_of new) n.variable) n.sign

    operands-one : (x r0 r1 : ℕ) → NewGate loose order x r0 r1 → r0 ∷ r1 ∷ [] ≡ larger_first (new_literal loose order (left_of loose x)) (new_literal loose order (right_of loose x))
    operands-one x r0 r1 g = elim g.operands [
      | inl (a, b) ↦ pair_larger _ _ r0 r1 g.larger (inl (literal-one (left_of loose x) r0 a, literal-one (right_of loose x) r1 b))
      | inr (a, b) ↦ pair_larger _ _ r0 r1 g.larger (inr (literal-one (left_of loose x) r1 a, literal-one (right_of loose x) r0 b))
    ]

    literal_new : (old : ℕ) → variable_of old < first_gate loose + gate_count loose → NewLiteral loose order old (new_literal loose order old)
    unfolding new_literal
    literal_new old l = record {
      variable = rw (variable-literal (new_variable loose order (variable_of old)) (is_inverted old)) (variable_new (variable_of old) l);
      sign = inverted-literal (new_variable loose order (variable_of old)) (is_inverted old);
    }

-- ---- the renumbered one is the netlist
module _ (loose order : List ℕ) (is : is_loose loose ≡ true) (o : Order loose order) where
  abbrev line : Outline loose
  line = outline loose (loose_outline loose is)

  literal-placed : (lit : ℕ) → variable_of lit ≤ maximum loose → NewLiteral loose order lit (new_literal loose order lit)
  literal-placed lit l = literal_new loose order o lit (omega (arith, line.sum))

  next_new : (k : ℕ) → k < latch_count loose → NewLiteral loose order (get_or loose (next_at k) 0) (get_or (renumbered loose order) (next_at k) 0)
  unfolding renumbered new_latch
  next_new k l = rw ((lays loose order).next k l) (literal-placed (get_or loose (next_at k) 0) (line.nexts k l))

  reset_new : (k : ℕ) → k < latch_count loose → get_or (renumbered loose order) (reset_at k) 0 ≡ get_or loose (reset_at k) 0
  unfolding renumbered new_latch
  reset_new k l = (lays loose order).reset k l

  output_new : (k : ℕ) → k < output_count loose → NewLiteral loose order (get_or loose (output_at loose k) 0) (get_or (renumbered loose order) (output_at loose k) 0)
  unfolding renumbered new_output
  output_new k l = rw ((lays loose order).output k l) (literal-placed (get_or loose (output_at loose k) 0) (line.outputs k l))

  gate_new : (m : ℕ) → m < gate_count loose → NewGate loose order (get_or order m 0) (get_or (renumbered loose order) (operands_at loose m) 0) (get_or (renumbered loose order) (operands_at loose m + 1) 0)
  unfolding renumbered new_gate
  gate_new m l =
      let x = get_or order m 0 in
      let r = o.ready m l in
      let v = loose-variables loose is (x - first_gate loose) (omega (arith, r.from, r.to)) in
      let a = literal-placed (left_of loose x) v.0 in
      let b = literal-placed (right_of loose x) v.1 in
      rw ((lays loose order).first m l, (lays loose order).second m l)
      (larger_pair (new_literal loose order (left_of loose x)) (new_literal loose order (right_of loose x)) (NewGate loose order x)
      (λ h. record { larger = h; operands = inl (a, b) }) (λ h. record { larger = h; operands = inr (a, b) }))

  pub renumbered-placed : PlacedAs loose (renumbered loose order)
  renumbered-placed = record {
    order = order;
    ordered = o;
    size = length-renumbered loose order;
    header = header-same loose order;
    next = next_new;
    reset = reset_new;
    output = output_new;
    gate = gate_new;
  }

-- ---- and it is the only one
module _ (loose net : List ℕ) (p : PlacedAs loose net) where
  abbrev order : List ℕ
  order = p.order

  latch_one : (k : ℕ) → k < latch_count loose → pair_at net (5 + 2 * k) ≡ new_latch loose order k
  unfolding new_latch
  latch_one k l = two (literal-one loose order p.ordered (get_or loose (next_at k) 0) (get_or net (next_at k) 0) (p.next k l)) (p.reset k l)

  output-one : (k : ℕ) → k < output_count loose → one_at net (5 + 2 * latch_count loose + k) ≡ new_output loose order k
  unfolding new_output
  output-one k l = ap (λ (x : ℕ). x ∷ []) (literal-one loose order p.ordered (get_or loose (output_at loose k) 0) (get_or net (output_at loose k) 0) (p.output k l))

  gate-one : (m : ℕ) → m < gate_count loose → pair_at net (5 + 2 * latch_count loose + output_count loose + 2 * m) ≡ new_gate loose order m
  unfolding new_gate
  gate-one m l = operands-one loose order p.ordered (get_or order m 0) (get_or net (operands_at loose m) 0) (get_or net (operands_at loose m + 1) 0) (p.gate m l)

  pub placed-renumbered : net ≡ renumbered loose order
  unfolding renumbered
  placed-renumbered =
      let m : maximum net ≡ maximum loose = p.header 0 (omega arith) in
      let i : input_count net ≡ input_count loose = p.header 1 (omega arith) in
      let l : latch_count net ≡ latch_count loose = p.header 2 (omega arith) in
      let u : output_count net ≡ output_count loose = p.header 3 (omega arith) in
      let a : gate_count net ≡ gate_count loose = p.header 4 (omega arith) in
      let s : length net ≡ size_of net = rw (l, u, a) p.size in
      let e = made net s in
      (rw (m, i, l, u, a) at e)
      ∙ ap (λ (x : List ℕ). maximum loose ∷ input_count loose ∷ latch_count loose ∷ output_count loose ∷ gate_count loose ∷ x)
      (ap₂ ◌++◌ (joined_same _ (new_latch loose order) (latch_count loose) latch_one)
      (ap₂ ◌++◌ (joined_same _ (new_output loose order) (output_count loose) output-one) (joined_same _ (new_gate loose order) (gate_count loose) gate-one)))

pub one_placed : (loose net other : List ℕ) → PlacedAs loose net → PlacedAs loose other → net ≡ other
one_placed loose net other p q =
    placed-renumbered loose net p ∙ ap (renumbered loose) (one-order loose p.order q.order p.ordered q.ordered) ∙ sym (placed-renumbered loose other q)

-- ---- the gates of a netlist are in their order

-- n numbers from x on
abbrev pub up_from : ℕ → ℕ → List ℕ
up_from x zero = []
up_from x (suc n) = x ∷ up_from (suc x) n

pub up_length : (x n : ℕ) → length (up_from x n) ≡ n
up_length x zero = refl
up_length x (suc n) = ap suc (up_length (suc x) n)

pub up_at : (x n k : ℕ) → k < n → get_or (up_from x n) k 0 ≡ x + k
up_at x zero k l = absurd (omega arith)
up_at x (suc n) zero l = omega arith
up_at x (suc n) (suc k) l = omega (arith, up_at (suc x) n k (omega arith))

module _ (net : List ℕ) (is : is_netlist net ≡ true) where
  abbrev v : Valid net
  v = valid net is

  abbrev f : ℕ
  f = first_gate net

  abbrev gates : List ℕ
  gates = up_from f (gate_count net)

  before : (n x : ℕ) → n ≤ gate_count net → x < f + n → Before net gates n x
  before n x h l = elim (dec_lt x f) [
    | yes d ↦ inl d
    | no d ↦ inr (x - f, omega (arith, d), up_at f (gate_count net) (x - f) (omega (arith, d)) ∙ (omega (arith, d)))
  ]

  gates-order : Order net gates
  gates-order = record {
    whole = up_length f (gate_count net);
    ready = λ n l. rw (up_at f (gate_count net) n l) (
        let e : f + n - f ≡ n = omega arith in
        record {
          from = omega arith;
          to = omega arith;
          fresh = λ m h g. omega (arith, up_at f (gate_count net) m (omega arith), g);
          left = rw e (before n (variable_of (get_or net (operands_at net n) 0)) (omega arith) (v.first n l));
          right = rw e (before n (variable_of (get_or net (operands_at net n + 1) 0)) (omega arith) (v.second n l));
        });
    lowest = λ n x l r. rw (up_at f (gate_count net) n l) (elim (dec_lt x (f + n)) [
      | yes d ↦ absurd (r.fresh (x - f) (omega (arith, r.from)) (up_at f (gate_count net) (x - f) (omega (arith, r.from)) ∙ (omega (arith, r.from))))
      | no d ↦ omega (arith, d)
    ]);
  }

  own-literal : (lit : ℕ) → variable_of lit ≤ maximum net → NewLiteral net gates lit lit
  own-literal lit l = record {
    variable = elim (dec_lt (variable_of lit) f) [
      | yes d ↦ inl (d, refl)
      | no d ↦
          let m : variable_of lit - f < gate_count net = omega (arith, d, v.sum) in
          let e : f + (variable_of lit - f) ≡ variable_of lit = omega (arith, d) in
          inr (variable_of lit - f, m, up_at f (gate_count net) (variable_of lit - f) m ∙ e, sym e)
    ];
    sign = refl;
  }

  -- a number of the netlist without its surplus
  kept : (k : ℕ) → k < size_of net → get_or (take (size_of net) net) k 0 ≡ get_or net k 0
  kept k l = get_or-take (size_of net) net k 0 l

  pub netlist-placed : PlacedAs net (take (size_of net) net)
  netlist-placed = record {
    order = gates;
    ordered = gates-order;
    size = length-take-le (size_of net) net v.long;
    header = λ k l. kept k (omega arith);
    next = λ k l. rw (kept (next_at k) (omega arith)) (own-literal (get_or net (next_at k) 0) (v.nexts k l));
    reset = λ k l. kept (reset_at k) (omega arith);
    output = λ k l. rw (kept (output_at net k) (omega arith)) (own-literal (get_or net (output_at net k) 0) (v.outputs k l));
    gate = λ m l. rw (kept (operands_at net m) (omega arith), kept (operands_at net m + 1) (omega arith), up_at f (gate_count net) m l) (
        let e : f + m - f ≡ m = omega arith in
        let a = own-literal (get_or net (operands_at net m) 0) (omega (arith, v.first m l, v.sum)) in
        let b = own-literal (get_or net (operands_at net m + 1) 0) (omega (arith, v.second m l, v.sum)) in
        record { larger = v.order m l; operands = inl (rw e a, rw e b) });
  }
