-- The new variables of an order under way, and the gate that is chosen by them. Assumes nothing.
use mathlib.Core.Path.{◌≡◌, refl, sym, ap, ◌∙◌}
use mathlib.Core.Bool.{Bool, true, false, not, cond, ◌||◌, or-false}
use mathlib.Core.List.{List, [], ◌∷◌, ◌++◌}
use Prim.Native.Nat.{ℕ, zero, suc, ◌+◌, ◌-◌, ◌<◌, ◌≤◌}
use native.Mathlib.Numerals.{add-one}
use native.Mathlib.Decide.{ℕ_discrete}
use native.Mathlib.Omega.{arith}
use lib.Dec.{eqb, ltb}
use lib.ListN.{length, get_or, set, replicate, length-set, length-replicate, get_or-replicate}
use lib.Seq.{get_or-set_same, get_or-set_other}
use borrow.Author.Tests.{eq-eqb, ne_eqb, lt-ltb, le-ltb, ltb-true, ltb-false}
use Rattle.netlist.specs.Layout.{gate_count}
use Rattle.netlist.specs.Literals.{variable_of}
use Rattle.gate_order.specs.Loose.{first_gate, left_of, right_of}
use Rattle.gate_order.specs.Placing.{member, index_of, lowest, is_ready}
use Rattle.gate_order.specs.Renumbered.{new_variable}
use Rattle.gate_order.proofs.PlacingLaws.{index_stands, member-more, index_kept, index_new}
use Rattle.aiger_order.specs.Private.Steps.{placed_in, ready_in, Starts, Stands}

-- ---- the lowest number that passes a test, one by one
module _ (t : ℕ → Bool) (x end : ℕ) (h : x < end) where
  one_more_lem : end - x ≡ suc (end - (x + 1))
  one_more_lem = omega arith

  pub lowest-here : t x ≡ true → lowest t x (end - x) ≡ x
  lowest-here e = rw (one_more_lem, e)

  pub lowest-next : t x ≡ false → lowest t x (end - x) ≡ lowest t (x + 1) (end - (x + 1))
  lowest-next e = rw (one_more_lem, e, add-one x)

pub lowest_end : (t : ℕ → Bool) (x end : ℕ) → x ≤ end → end ≤ x → end ≡ lowest t x (end - x)
lowest_end t x end l h =
    let none : end - x ≡ 0 = omega arith in
    rw none (omega arith)

pub lowest-same : (t u : ℕ → Bool) (x n : ℕ) → ((y : ℕ) → x ≤ y → y < x + n → t y ≡ u y) → lowest t x n ≡ lowest u x n
lowest-same t u x zero h = refl
lowest-same t u x (suc n) h = rw (h x (omega arith) (omega arith), lowest-same t u (suc x) n (λ y l m. h y (omega arith) (omega arith)))

-- ---- a gate is ready
module _ (loose news : List ℕ) (x : ℕ) where
  pub placed_unready : placed_in news x ≡ true → ready_in loose news x ≡ false
  unfolding ready_in
  placed_unready e = rw e

  pub left_unready : placed_in news x ≡ false → placed_in news (variable_of (left_of loose x)) ≡ false → ready_in loose news x ≡ false
  unfolding ready_in
  left_unready e l = rw (e, l)

  pub right-ready : placed_in news x ≡ false → placed_in news (variable_of (left_of loose x)) ≡ true
      → ready_in loose news x ≡ placed_in news (variable_of (right_of loose x))
  unfolding ready_in
  right-ready e l = rw (e, l)

-- ---- the new variables
module _ (loose : List ℕ) where
  -- at the start
  pub starts_stand : (news : List ℕ) → Starts (first_gate loose) news → Stands loose [] news
  unfolding new_variable
  starts_stand news s = record { long = s.long; at = λ v l. s.at v l ∙ by v (ltb v (first_gate loose)) }
    where
      by : (v : ℕ) (b : Bool) → cond b v 65535 ≡ cond (b || false) (cond b v (first_gate loose + 0)) 65535
      by v true = refl
      by v false = refl

  module _ (order news : List ℕ) (s : Stands loose order news) (small : first_gate loose + length order ≤ 4096) where
    -- a placed variable has one
    pub new_below : (v : ℕ) → (ltb v (first_gate loose) || member v order) ≡ true → new_variable loose order v < 4096
    unfolding new_variable
    new_below v h = by (ltb v (first_gate loose)) refl
      where
        by : (b : Bool) → ltb v (first_gate loose) ≡ b → cond b v (first_gate loose + index_of v order) < 4096
        by true e = let l = ltb-true v (first_gate loose) e in omega arith
        by false e = let i = index_stands v order (rw e at h) in omega (arith, i.0)

    pub placed_same : (v : ℕ) → v < 4096 → placed_in news v ≡ (ltb v (first_gate loose) || member v order)
    unfolding placed_in
    placed_same v l = rw (s.at v l) (by (ltb v (first_gate loose) || member v order) refl)
      where
        by : (b : Bool) → (ltb v (first_gate loose) || member v order) ≡ b → not (eqb (cond b (new_variable loose order v) 65535) 65535) ≡ b
        by true e = let n = new_below v e in rw (ne_eqb (new_variable loose order v) 65535 (λ q. omega arith))
        by false e = refl

    -- one gate more
    module _ (x : ℕ) (from : first_gate loose ≤ x) (to : x < 4096) (new : member x order ≡ false) where
      more-at : (v : ℕ) → v < 4096 → (v ≡ x → ⊥)
          → get_or news v 0 ≡ cond (ltb v (first_gate loose) || member v (order ++ (x ∷ []))) (new_variable loose (order ++ (x ∷ [])) v) 65535
      unfolding new_variable
      more-at v l d =
          let m : member v (order ++ (x ∷ [])) ≡ member v order = member-more v x order ∙ rw (ne_eqb v x d) (or-false (member v order)) in
          s.at v l ∙ rw m (by (ltb v (first_gate loose)) (member v order) refl)
        where
          by : (b c : Bool) → member v order ≡ c
              → cond (b || c) (cond b v (first_gate loose + index_of v order)) 65535 ≡ cond (b || c) (cond b v (first_gate loose + index_of v (order ++ (x ∷ [])))) 65535
          by true c e = refl
          by false true e = ap (λ (i : ℕ). first_gate loose + i) (sym (index_kept v x order e))
          by false false e = refl

      pub stands-more : Stands loose (order ++ (x ∷ [])) (set news x (first_gate loose + length order))
      unfolding new_variable
      stands-more = record {
        long = length-set news x (first_gate loose + length order) ∙ s.long;
        at = λ v l. elim (ℕ_discrete v x) [
          | yes e ↦
              let m : member x (order ++ (x ∷ [])) ≡ true = member-more x x order ∙ rw (new, eq-eqb x x refl) in
              rw (e, m, le-ltb x (first_gate loose) from, index_new x order new) (get_or-set_same news x (first_gate loose + length order) 0 (rw s.long to))
          | no d ↦ get_or-set_other news x v (first_gate loose + length order) 0 d ∙ more-at v l d
        ];
      }

    -- the test of the code is the definition's
    pub ready-same : (x : ℕ) → x < 4096 → variable_of (left_of loose x) < 4096 → variable_of (right_of loose x) < 4096 → first_gate loose ≤ x
        → ready_in loose news x
        ≡ is_ready (first_gate loose) (gate_count loose) (λ y. variable_of (left_of loose y)) (λ y. variable_of (right_of loose y)) order x
    unfolding ready_in
    ready-same x l h k from =
        rw (placed_same x l, placed_same (variable_of (left_of loose x)) h, placed_same (variable_of (right_of loose x)) k, le-ltb x (first_gate loose) from)

-- ---- the variables below the first gate, one by one
pub starts : (news : List ℕ) → news ≡ replicate 4096 65535 → Starts 0 news
starts news e = record { long = ap length e ∙ length-replicate {A = ℕ} 4096 65535; at = λ v l. ap (λ (n : List ℕ). get_or n v 0) e ∙ get_or-replicate 4096 v 65535 0 l ∙ rw (le-ltb v 0 (omega arith)) }

pub starts-next : (v : ℕ) (news : List ℕ) → Starts v news → v < 4096 → Starts (v + 1) (set news v v)
starts-next v news s h = record {
  long = length-set news v v ∙ s.long;
  at = λ u l. elim (ℕ_discrete u v) [
    | yes e ↦ rw (e, lt-ltb v (v + 1) (omega arith)) (get_or-set_same news v v 0 (rw s.long h))
    | no d ↦ get_or-set_other news v u v 0 d ∙ s.at u l ∙ by u d (ltb u v) refl
  ];
}
  where
    by : (u : ℕ) → (u ≡ v → ⊥) → (b : Bool) → ltb u v ≡ b → cond b u 65535 ≡ cond (ltb u (v + 1)) u 65535
    by u d true e = let l = ltb-true u v e in rw (lt-ltb u (v + 1) (omega arith))
    by u d false e = let l = ltb-false u v e in rw (le-ltb u (v + 1) (omega (arith, d)))
