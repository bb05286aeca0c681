-- The loop over the places: the order so far, its new variables, and what the rest of placing gives. Assumes nothing.
use mathlib.Core.Path.{◌≡◌, sym, ◌∙◌}
use mathlib.Core.Bool.{Bool, true, false, not, cond}
use mathlib.Core.List.{List, [], ◌∷◌, ◌++◌}
use Prim.Native.Nat.{ℕ, zero, suc, ◌+◌, ◌-◌, ◌<◌, ◌≤◌}
use native.Mathlib.Numerals.{add-one}
use native.Mathlib.Decide.{dec_le}
use native.Mathlib.Omega.{arith}
use lib.ListN.{length, take, set, length-set}
use lib.Seq.{take-suc-set, length-take-le}
use borrow.Author.Tests.{lt-ltb, le-ltb, not-true}
use Rattle.netlist.specs.Layout.{gate_count}
use Rattle.netlist.specs.Literals.{variable_of}
use Rattle.netlist.proofs.EachLaws.{both}
use Rattle.gate_order.specs.Loose.{first_gate, left_of, right_of, is_loose}
use Rattle.gate_order.specs.Placing.{member, lowest, is_ready, chosen, place_from, placing_of}
use Rattle.gate_order.proofs.PlacingLaws.{member-more, lowest-from, lowest_passes, lowest_skip}
use Rattle.aiger_order.specs.Private.Steps.{ready_in, Starts, Stands, Passed, Found}
use Rattle.aiger_order.proofs.LimitLaws.{facts, operands-small}
use Rattle.aiger_order.proofs.NewsLaws.{lowest-same, starts_stand, placed_same, ready-same, stands-more}

lowest-to : (t : ℕ → Bool) (x n : ℕ) → lowest t x n ≤ x + n
lowest-to t x zero = omega arith
lowest-to t x (suc n) = by (t x) (lowest-to t (suc x) n)
  where
    by : (b : Bool) → lowest t (suc x) n ≤ suc x + n → cond b x (lowest t (suc x) n) ≤ x + suc n
    by true i = omega arith
    by false i = omega arith

module _ (loose : List ℕ) where
  abbrev left : ℕ → ℕ
  left x = variable_of (left_of loose x)

  abbrev right : ℕ → ℕ
  right x = variable_of (right_of loose x)

  abbrev ready : List ℕ → ℕ → Bool
  ready = is_ready (first_gate loose) (gate_count loose) left right

  -- the gate of the next place
  abbrev next : List ℕ → ℕ
  next = chosen (first_gate loose) (gate_count loose) left right

-- n gates are placed, among them all below `low`
pub record Going (loose news order : List ℕ) (low n : ℕ) : Type 0 where
  pub within : n ≤ gate_count loose
  pub long : length order ≡ 4096
  pub stands : Stands loose (take n order) news
  pub from : first_gate loose ≤ low
  pub to : low ≤ first_gate loose + gate_count loose
  pub passed : (y : ℕ) → first_gate loose ≤ y → y < low → member y (take n order) ≡ true
  pub rest : place_from (first_gate loose) (gate_count loose) (left loose) (right loose) (gate_count loose - n) (take n order) ≡ placing_of loose

module _ (loose : List ℕ) (is : is_loose loose ≡ true) where
  end_small : first_gate loose + gate_count loose ≤ 4096
  end_small = let f = facts loose is in omega arith

  pub going_start : (news order : List ℕ) → Starts (first_gate loose) news → length order ≡ 4096 → Going loose news order (first_gate loose) 0
  going_start news order s h =
      let e : gate_count loose - 0 ≡ gate_count loose = omega arith in
      record {
        within = omega arith;
        long = h;
        stands = starts_stand loose news s;
        from = omega arith;
        to = omega arith;
        passed = λ y l u. absurd (omega arith);
        rest = rw e;
      }

  module _ {news order : List ℕ} {low n : ℕ} (g : Going loose news order low n) where
    sized : length (take n order) ≡ n
    sized = let w = g.within in let s = end_small in length-take-le n order (rw g.long (omega arith))

    small : first_gate loose + length (take n order) ≤ 4096
    small = let w = g.within in let s = end_small in rw sized (omega arith)

    pub going_done : gate_count loose ≤ n → Found loose news order true
    unfolding Found
    going_done h =
        let w = g.within in
        let e : n ≡ gate_count loose = omega arith in
        let z : gate_count loose - n ≡ 0 = omega arith in
        record {
          long = g.long;
          is = sym g.rest ∙ rw (z, e);
          stands = rw e at g.stands;
        }

    module _ (more : n < gate_count loose) {end low' x : ℕ} (e : end ≡ first_gate loose + gate_count loose) (p : Passed news low end low')
        (c : x ≡ lowest (ready_in loose news) low' (end - low')) where
      all-passed : (y : ℕ) → first_gate loose ≤ y → y < low' → member y (take n order) ≡ true
      all-passed y l u = elim (dec_le low y) [
        | yes h ↦
            let q = p.to in
            let s = end_small in
            let m = sym (placed_same loose (take n order) news g.stands small y (omega arith)) ∙ p.placed y h u in
            rw (le-ltb y (first_gate loose) l) at m
        | no h ↦ g.passed y l (omega (arith, h))
      ]

      is-next : x ≡ next loose (take n order)
      is-next =
          let a = g.from in
          let q = p.from in
          let r = p.to in
          let s = end_small in
          let d : (low' - first_gate loose) + (end - low') ≡ gate_count loose = omega arith in
          let f : first_gate loose + (low' - first_gate loose) ≡ low' = omega arith in
          let skip = lowest_skip (ready loose (take n order)) (first_gate loose) (low' - first_gate loose) (end - low')
          (λ y l u. rw (all-passed y l (omega arith))) in
          c
          ∙ lowest-same (ready_in loose news) (ready loose (take n order)) low' (end - low')
          (λ y l u.
          let o = operands-small loose is y (omega arith) (omega arith) in
          ready-same loose (take n order) news g.stands small y (omega arith) o.0 o.1 (omega arith))
          ∙ sym (rw (d, f) at skip)

      one_more_lem : gate_count loose - n ≡ suc (gate_count loose - (n + 1))
      one_more_lem = omega arith

      pub going_stuck : (news' order' : List ℕ) → x ≡ end → Found loose news' order' false
      unfolding Found
      going_stuck news' order' h =
          let r : place_from (first_gate loose) (gate_count loose) (left loose) (right loose) (suc (gate_count loose - (n + 1))) (take n order) ≡ placing_of loose = rw one_more_lem at g.rest in
          let b = le-ltb (next loose (take n order)) (first_gate loose + gate_count loose) (omega (arith, is-next)) in
          (take n order, sym r ∙ rw b)

      pub going_inside : (x ≡ end → ⊥) → x < length news
      going_inside d =
          let t = lowest-to (ready_in loose news) low' (end - low') in
          rw g.stands.long (omega (arith, d, c, p.to, end_small))

      pub going_next : {v : ℕ} → (x ≡ end → ⊥) → v ≡ first_gate loose + n → Going loose (set news x v) (set order n x) low' (n + 1)
      going_next {v} d w =
          let u : next loose (take n order) < first_gate loose + gate_count loose = (let t = lowest-to (ready loose (take n order)) (first_gate loose) (gate_count loose) in omega (arith, d, is-next)) in
          let f : first_gate loose ≤ next loose (take n order) = lowest-from (ready loose (take n order)) (first_gate loose) (gate_count loose) in
          let t = lowest_passes (ready loose (take n order)) (first_gate loose) (gate_count loose) u in
          let fresh : member x (take n order) ≡ false = rw is-next (not-true _ (both (not (member (next loose (take n order)) (take n order))) _ t).0) in
          let s = end_small in
          let a = g.from in
          let q = p.from in
          let o : take (n + 1) (set order n x) ≡ take n order ++ (x ∷ []) = rw add-one (take-suc-set order n x (rw g.long (omega arith))) in
          let r : place_from (first_gate loose) (gate_count loose) (left loose) (right loose) (suc (gate_count loose - (n + 1))) (take n order) ≡ placing_of loose = rw one_more_lem at g.rest in
          let v' : v ≡ first_gate loose + length (take n order) = rw sized w in
          record {
            within = omega arith;
            long = length-set order n x ∙ g.long;
            stands = rw (o, v') (stands-more loose (take n order) news g.stands small x (omega (arith, is-next)) (omega (arith, is-next)) fresh);
            from = omega arith;
            to = omega (arith, p.to);
            passed = λ y l h. rw o (member-more y x (take n order) ∙ rw (all-passed y l h));
            rest = rw (o, is-next) (sym (rw (lt-ltb (next loose (take n order)) (first_gate loose + gate_count loose) u)) ∙ r);
          }
