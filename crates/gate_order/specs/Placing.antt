-- The order in which gates are placed, place by place. Assumes nothing.
use Rattle.std.specs.Prelude.{Bool, false, not, cond, ◌&&◌, ◌||◌, List, [], ◌∷◌, ◌++◌, ℕ, zero, suc, ◌+◌, eqb, ltb}
use Rattle.netlist.specs.Layout.{gate_count}
use Rattle.netlist.specs.Literals.{variable_of}
use Rattle.gate_order.specs.Loose.{first_gate, left_of, right_of}

-- whether a number stands in a list, and where first, from 0
abbrev pub member : ℕ → List ℕ → Bool
member x [] = false
member x (y ∷ ys) = eqb x y || member x ys

abbrev pub index_of : ℕ → List ℕ → ℕ
index_of x [] = 0
index_of x (y ∷ ys) = cond (eqb x y) 0 (suc (index_of x ys))

-- the first of n numbers from x on that passes the test, or x + n
abbrev pub lowest : (ℕ → Bool) → ℕ → ℕ → ℕ
lowest t x zero = x
lowest t x (suc n) = cond (t x) x (lowest t (suc x) n)

-- an order of all gates, or of those that do not wait
pub data Placing : Type 0 where
  ordered : List ℕ → Placing
  waiting : List ℕ → Placing

-- variables below f are placed from the start; the gates are the `count` variables from f on, and `left x` and `right x`
-- the variables of the operands of gate x
module _ (f count : ℕ) (left right : ℕ → ℕ) where
  abbrev pub is_placed : List ℕ → ℕ → Bool
  is_placed order x = ltb x f || member x order

  abbrev pub is_ready : List ℕ → ℕ → Bool
  is_ready order x = not (member x order) && (is_placed order (left x) && is_placed order (right x))

  -- the gate that takes the place behind the order, or f + count where none can
  abbrev pub chosen : List ℕ → ℕ
  chosen order = lowest (is_ready order) f count

  -- n places behind the order
  abbrev pub place_from : ℕ → List ℕ → Placing
  place_from zero order = ordered order
  place_from (suc n) order = cond (ltb (chosen order) (f + count)) (place_from n (order ++ (chosen order ∷ []))) (waiting order)

-- the order of the gates of loose numbers
abbrev pub placing_of : List ℕ → Placing
placing_of loose =
    place_from (first_gate loose) (gate_count loose) (λ x. variable_of (left_of loose x)) (λ x. variable_of (right_of loose x)) (gate_count loose) []
