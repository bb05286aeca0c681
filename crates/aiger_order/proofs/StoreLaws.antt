-- What is stored by an order of all gates is the netlist of the loose numbers. Assumes nothing.
use mathlib.Core.Path.{◌≡◌, refl, sym, ap, ap₂, ◌∙◌}
use mathlib.Core.Bool.{Bool, true, false, cond, ◌||◌, or-true}
use mathlib.Core.List.{List, [], ◌∷◌, ◌++◌, append_assoc}
use Prim.Native.Nat.{ℕ, zero, suc, ◌+◌, ◌*◌, ◌<◌, ◌≤◌}
use native.Mathlib.Nat.{zero-add, mul-suc}
use native.Mathlib.Numerals.{add-one}
use native.Mathlib.Decide.{dec_le}
use native.Mathlib.Omega.{arith}
use lib.Dec.{ltb}
use lib.ListN.{length, get_or, take, drop, length-append}
use lib.Seq.{sets, sets-eq, get_or-take}
use borrow.Author.Tests.{lt-ltb}
use Rattle.text.specs.Writer.{joined}
use Rattle.text.proofs.WriterLaws.{sets-append, joined_same}
use Rattle.netlist.specs.Layout.{maximum, latch_count, output_count, gate_count, next_at, output_at, operands_at, size_of}
use Rattle.netlist.specs.Literals.{variable_of}
use Rattle.gate_order.specs.Loose.{first_gate, left_of, right_of, is_loose, Once}
use Rattle.gate_order.specs.Order.{Order}
use Rattle.gate_order.specs.Placing.{member}
use Rattle.gate_order.specs.Renumbered.{larger_first, new_variable, new_literal, new_latch, new_output, new_gate, renumbered}
use Rattle.gate_order.proofs.PlacingLaws.{all_stand}
use Rattle.gate_order.proofs.OrderLaws.{placing_order, order-once}
use Rattle.gate_order.proofs.RenumberedLaws.{length-renumbered}
use Rattle.aiger_order.specs.Private.Steps.{Ordered, Numbered, literal_in, header_in, latch_in, output_in, gate_in, gate_at}
use Rattle.aiger_order.proofs.LimitLaws.{facts, operands-within}
use Rattle.aiger_order.proofs.NewsLaws.{new_below}

-- ---- lists of one length, stored one after the other
module _ (f : ℕ → List ℕ) (w : ℕ) (sized : (k : ℕ) → length (f k) ≡ w) where
  joined-sized : (n : ℕ) → length (joined f n) ≡ w * n
  joined-sized zero = omega arith
  joined-sized (suc n) = rw (length-append (joined f n) (f n), joined-sized n, sized n, mul-suc w n) (omega arith)

  pub stored_next : (l : List ℕ) (at k : ℕ) {net after : List ℕ} {p : ℕ} → net ≡ sets l at (joined f k) → p ≡ at + w * k → after ≡ sets net p (f k)
      → after ≡ sets l at (joined f (k + 1))
  stored_next l at k {net} {after} {p} s e h =
      let q : p ≡ at + length (joined f k) = rw (joined-sized k) e in
      h ∙ rw (s, q, sets-append (joined f k) (f k) l at, add-one k)

module _ (loose news : List ℕ) where
  pub latch_sized : (k : ℕ) → length (latch_in loose news k) ≡ 2
  unfolding latch_in
  latch_sized k = refl

  pub output-sized : (k : ℕ) → length (output_in loose news k) ≡ 1
  unfolding output_in
  output-sized k = refl

  gate-sized : (x : ℕ) → length (gate_in loose news x) ≡ 2
  unfolding gate_in larger_first
  gate-sized x = by (literal_in news (left_of loose x)) (literal_in news (right_of loose x)) (ltb (literal_in news (left_of loose x)) (literal_in news (right_of loose x)))
    where
      by : (a b : ℕ) (t : Bool) → length (cond t (b ∷ a ∷ []) (a ∷ b ∷ [])) ≡ 2
      by a b true = refl
      by a b false = refl

  pub gates-sized : (order : List ℕ) (m : ℕ) → length (gate_at loose news order m) ≡ 2
  gates-sized order m = gate-sized (get_or order m 0)

-- a list stored behind another
behind : (l s t : List ℕ) {m r : List ℕ} {p : ℕ} → m ≡ sets l 0 s → p ≡ length s → r ≡ sets m p t → r ≡ sets l 0 (s ++ t)
behind l s t {m} {r} {p} e h g =
    let q : p ≡ 0 + length s = omega arith in
    g ∙ rw (e, q) (sets-append s t l 0)

-- ---- the new variables by an order of all gates
module _ (loose news order : List ℕ) (is : is_loose loose ≡ true) (d : Ordered loose news order) where
  abbrev whole : List ℕ
  whole = take (gate_count loose) order

  placed : Order loose whole
  placed = placing_order loose whole d.is

  once : Once loose whole
  once = order-once loose whole placed

  pub inside : (m : ℕ) → m < gate_count loose → (first_gate loose ≤ get_or order m 0) × (get_or order m 0 < first_gate loose + gate_count loose)
  inside m l = rw (get_or-take (gate_count loose) order m 0 l) at (once.inside m (rw placed.whole l))

  all_placed : (v : ℕ) → v ≤ maximum loose → (ltb v (first_gate loose) || member v whole) ≡ true
  all_placed v l = elim (dec_le (first_gate loose) v) [
    | yes h ↦
        let o = facts loose is in
        rw (all_stand (first_gate loose) (gate_count loose) whole once.inside once.once placed.whole v h (omega arith)) (or-true (ltb v (first_gate loose)))
    | no h ↦ rw (lt-ltb v (first_gate loose) (omega (arith, h)))
  ]

  new_is : (v : ℕ) → v ≤ maximum loose → get_or news v 0 ≡ new_variable loose whole v
  new_is v l = let o = facts loose is in d.stands.at v (omega arith) ∙ rw (all_placed v l)

  pub numbered : Numbered loose news
  numbered = record {
    long = d.stands.long;
    all = λ v l.
        let o = facts loose is in
        let b = new_below loose whole news d.stands (rw placed.whole (omega arith)) v (all_placed v l) in
        rw (new_is v l) (omega arith);
  }

  -- ---- the numbers by them
  literal-is : (lit : ℕ) → variable_of lit ≤ maximum loose → new_literal loose whole lit ≡ literal_in news lit
  unfolding new_literal literal_in
  literal-is lit l = rw (new_is (variable_of lit) l)

  latches : joined (new_latch loose whole) (latch_count loose) ≡ joined (latch_in loose news) (latch_count loose)
  unfolding new_latch latch_in
  latches = joined_same _ _ (latch_count loose) (λ k l. rw (literal-is (get_or loose (next_at k) 0) ((facts loose is).nexts k l)))

  outputs : joined (new_output loose whole) (output_count loose) ≡ joined (output_in loose news) (output_count loose)
  unfolding new_output output_in
  outputs = joined_same _ _ (output_count loose) (λ k l. rw (literal-is (get_or loose (output_at loose k) 0) ((facts loose is).outputs k l)))

  gates : joined (new_gate loose whole) (gate_count loose) ≡ joined (gate_at loose news order) (gate_count loose)
  unfolding new_gate gate_in
  gates = joined_same _ _ (gate_count loose) (λ m l.
      let i = inside m l in
      let w = operands-within loose is (get_or order m 0) i.0 i.1 in
      rw (get_or-take (gate_count loose) order m 0 l, literal-is (left_of loose (get_or order m 0)) w.0, literal-is (right_of loose (get_or order m 0)) w.1))

  abbrev front : List ℕ
  front = header_in loose ++ joined (latch_in loose news) (latch_count loose)

  front-sized : length front ≡ output_at loose 0
  front-sized = rw (length-append (header_in loose) (joined (latch_in loose news) (latch_count loose)), joined-sized (latch_in loose news) 2 (latch_sized loose news) (latch_count loose)) (omega arith)

  middle_sized : length (front ++ joined (output_in loose news) (output_count loose)) ≡ operands_at loose 0
  middle_sized = rw (length-append front (joined (output_in loose news) (output_count loose)), front-sized, joined-sized (output_in loose news) 1 (output-sized loose news) (output_count loose)) (omega arith)

  abbrev numbers : List ℕ
  numbers = (front ++ joined (output_in loose news) (output_count loose)) ++ joined (gate_at loose news order) (gate_count loose)

  numbers-are : numbers ≡ renumbered loose whole
  unfolding renumbered
  numbers-are =
      rw (latches, outputs, gates, append_assoc front (joined (output_in loose news) (output_count loose)) (joined (gate_at loose news order) (gate_count loose)))

  -- header, latches, outputs and gates, each stored behind the other
  pub stored : (net : List ℕ) {a b after : List ℕ} → a ≡ sets net 0 front → b ≡ sets a (output_at loose 0) (joined (output_in loose news) (output_count loose))
      → after ≡ sets b (operands_at loose 0) (joined (gate_at loose news order) (gate_count loose)) → size_of loose ≤ length net
      → after ≡ renumbered loose whole ++ drop (size_of loose) net
  stored net f m g room =
      let h = behind net front (joined (output_in loose news) (output_count loose)) f (sym front-sized) m in
      let i = behind net (front ++ joined (output_in loose news) (output_count loose)) (joined (gate_at loose news order) (gate_count loose)) h (sym middle_sized) g in
      let d : 0 + length numbers ≡ size_of loose = zero-add (length numbers) ∙ ap length numbers-are ∙ length-renumbered loose whole in
      i ∙ sets-eq numbers net 0 (omega (arith, d)) ∙ ap₂ (λ (l : List ℕ) (n : ℕ). l ++ drop n net) numbers-are d
