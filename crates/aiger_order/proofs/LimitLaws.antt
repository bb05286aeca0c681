-- What the operands of loose numbers have, as the code tests and asks it. Assumes nothing.
use mathlib.Core.Path.{◌≡◌}
use mathlib.Core.Bool.{true, false, and-false}
use mathlib.Core.List.{List}
use Prim.Native.Nat.{ℕ, ◌+◌, ◌*◌, ◌-◌, ◌<◌, ◌≤◌}
use native.Mathlib.Omega.{arith}
use lib.ListN.{get_or}
use borrow.Author.Tests.{le-leb, lt-leb}
use Rattle.netlist.specs.Layout.{maximum, gate_count, operands_at}
use Rattle.netlist.specs.Literals.{literal_of, variable_of}
use Rattle.netlist.specs.Valid.{is_within}
use Rattle.gate_order.specs.Loose.{first_gate, left_of, right_of, operands_ok, is_loose}
use Rattle.netlist.proofs.ValidLaws.{Outline, outline}
use Rattle.gate_order.proofs.LooseLaws.{loose_outline, loose-variables}
use Rattle.aiger_order.specs.declared.Gates.{Gates}
use Rattle.aiger_order.specs.Private.Steps.{GatesOf}

module _ (loose : List ℕ) (k p last : ℕ) (at : p ≡ operands_at loose k) (is : last ≡ literal_of (maximum loose) true) where
  pub left_out : last < get_or loose p 0 → operands_ok loose k ≡ false
  unfolding operands_ok is_within
  left_out h = rw (← at, ← is, lt-leb (get_or loose p 0) last h)

  pub right-out : last < get_or loose (p + 1) 0 → operands_ok loose k ≡ false
  unfolding operands_ok is_within
  right-out h = rw (← at, ← is, lt-leb (get_or loose (p + 1) 0) last h, and-false)

  pub both_in : get_or loose p 0 ≤ last → get_or loose (p + 1) 0 ≤ last → operands_ok loose k ≡ true
  unfolding operands_ok is_within
  both_in l r = rw (← at, ← is, le-leb (get_or loose p 0) last l, le-leb (get_or loose (p + 1) 0) last r)

module _ (loose : List ℕ) (is : is_loose loose ≡ true) where
  pub facts : Outline loose
  facts = outline loose (loose_outline loose is)

  -- the operands of a gate are of variables of the file
  pub operands-within : (x : ℕ) → first_gate loose ≤ x → x < first_gate loose + gate_count loose
      → (variable_of (left_of loose x) ≤ maximum loose) × (variable_of (right_of loose x) ≤ maximum loose)
  operands-within x l u = loose-variables loose is (x - first_gate loose) (omega arith)

  pub operands-small : (x : ℕ) → first_gate loose ≤ x → x < first_gate loose + gate_count loose
      → (variable_of (left_of loose x) < 4096) × (variable_of (right_of loose x) < 4096)
  operands-small x l u =
      let w = operands-within x l u in
      (omega (arith, w.0, facts.small), omega (arith, w.1, facts.small))

-- where the operands of a gate stand
pub place_is : (loose : List ℕ) (g : Gates) → GatesOf loose g → (x : ℕ) → g.at + 2 * (x - g.first.0) ≡ operands_at loose (x - first_gate loose)
place_is loose g h x = rw h.first (omega (arith, h.at))
