-- The netlist of loose numbers, its gates in an order. Assumes nothing.
use Rattle.std.specs.Prelude.{cond, List, [], ◌∷◌, ◌++◌, ℕ, ◌+◌, ltb, get_or}
use Rattle.text.specs.Writer.{joined}
use Rattle.netlist.specs.Layout.{maximum, input_count, latch_count, output_count, gate_count, next_at, reset_at, output_at}
use Rattle.netlist.specs.Literals.{literal_of, variable_of, is_inverted}
use Rattle.gate_order.specs.Loose.{first_gate, left_of, right_of}
use Rattle.gate_order.specs.Placing.{index_of}

-- two operands, the larger first
unfoldable pub larger_first : ℕ → ℕ → List ℕ
larger_first a b = cond (ltb a b) (b ∷ a ∷ []) (a ∷ b ∷ [])

module _ (loose order : List ℕ) where
  -- a gate's new variable is that of its place
  unfoldable pub new_variable : ℕ → ℕ
  new_variable x = cond (ltb x (first_gate loose)) x (first_gate loose + index_of x order)

  unfoldable pub new_literal : ℕ → ℕ
  new_literal lit = literal_of (new_variable (variable_of lit)) (is_inverted lit)

  -- the numbers of latch k, of output k and of the gate at place m
  unfoldable pub new_latch : ℕ → List ℕ
  new_latch k = new_literal (get_or loose (next_at k) 0) ∷ get_or loose (reset_at k) 0 ∷ []

  unfoldable pub new_output : ℕ → List ℕ
  new_output k = new_literal (get_or loose (output_at loose k) 0) ∷ []

  unfoldable pub new_gate : ℕ → List ℕ
  new_gate m = larger_first (new_literal (left_of loose (get_or order m 0))) (new_literal (right_of loose (get_or order m 0)))

  unfoldable pub renumbered : List ℕ
  renumbered =
      maximum loose ∷ input_count loose ∷ latch_count loose ∷ output_count loose ∷ gate_count loose
      ∷ (joined new_latch (latch_count loose) ++ (joined new_output (output_count loose) ++ joined new_gate (gate_count loose)))
