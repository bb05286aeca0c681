-- What loose numbers have, as facts. Assumes nothing.
use mathlib.Core.Path.{◌≡◌}
use mathlib.Core.Bool.{true}
use mathlib.Core.List.{List}
use Prim.Native.Nat.{ℕ, ◌+◌, ◌<◌, ◌≤◌}
use native.Mathlib.Omega.{arith}
use lib.ListN.{get_or}
use borrow.Author.Tests.{leb-true, le-leb}
use Rattle.netlist.specs.Layout.{maximum, gate_count, operands_at, gate_variable}
use Rattle.netlist.specs.Literals.{literal_of, variable_of}
use Rattle.netlist.specs.Lanes.{each}
use Rattle.netlist.specs.Valid.{is_within, is_outline, is_netlist}
use Rattle.netlist.proofs.EachLaws.{both, each_all, each_at}
use Rattle.netlist.proofs.LiteralLaws.{literal-plain, literal-inverted, variable-within}
use Rattle.netlist.proofs.ValidLaws.{valid, outline_of}
use Rattle.gate_order.specs.Loose.{operands_ok, is_loose}

module _ (loose : List ℕ) where
  -- the operands of gate k are literals of the file
  abbrev pub Within : ℕ → Type 0
  Within k = (get_or loose (operands_at loose k) 0 ≤ literal_of (maximum loose) true) × (get_or loose (operands_at loose k + 1) 0 ≤ literal_of (maximum loose) true)

  within : (lit : ℕ) → is_within loose lit ≡ true → lit ≤ literal_of (maximum loose) true
  unfolding is_within
  within lit e = leb-true lit (literal_of (maximum loose) true) e

  operands : (k : ℕ) → operands_ok loose k ≡ true → Within k
  unfolding operands_ok
  operands k e =
      let b = both (is_within loose (get_or loose (operands_at loose k) 0)) (is_within loose (get_or loose (operands_at loose k + 1) 0)) e in
      (within (get_or loose (operands_at loose k) 0) b.0, within (get_or loose (operands_at loose k + 1) 0) b.1)

  operands_ok_lem : (k : ℕ) → Within k → operands_ok loose k ≡ true
  unfolding operands_ok is_within
  operands_ok_lem k w = rw (le-leb _ _ w.0, le-leb _ _ w.1)

  pub loose_outline : is_loose loose ≡ true → is_outline loose ≡ true
  unfolding is_loose
  loose_outline e = (both (is_outline loose) (each (gate_count loose) (operands_ok loose)) e).0

  pub loose-within : is_loose loose ≡ true → (k : ℕ) → k < gate_count loose → Within k
  unfolding is_loose
  loose-within e k l =
      operands k (each_at (operands_ok loose) (gate_count loose) (both (is_outline loose) (each (gate_count loose) (operands_ok loose)) e).1 k l)

  pub loose-variables : is_loose loose ≡ true → (k : ℕ) → k < gate_count loose
      → (variable_of (get_or loose (operands_at loose k) 0) ≤ maximum loose) × (variable_of (get_or loose (operands_at loose k + 1) 0) ≤ maximum loose)
  loose-variables e k l =
      let w = loose-within e k l in (
        variable-within (maximum loose) (get_or loose (operands_at loose k) 0) w.0,
        variable-within (maximum loose) (get_or loose (operands_at loose k + 1) 0) w.1,
      )

  pub loose_ok : is_outline loose ≡ true → ((k : ℕ) → k < gate_count loose → Within k) → is_loose loose ≡ true
  unfolding is_loose
  loose_ok o w = rw (o, each_all (operands_ok loose) (gate_count loose) (λ k l. operands_ok_lem k (w k l)))

-- a netlist is loose: the operands of its gates come before them
pub netlist-loose : (net : List ℕ) → is_netlist net ≡ true → is_loose net ≡ true
netlist-loose net e =
    let v = valid net e in
    loose_ok net (outline_of net e) (λ k l.
    let below = v.below k l in
    let order = v.order k l in
    let sum = v.sum in
    let g = literal-plain (gate_variable net k) in
    let m = literal-inverted (maximum net) in
    (omega arith, omega arith))
