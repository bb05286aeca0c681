-- A packed file is settled by the numbers that the netlist's header counts: surplus numbers say nothing. And what a
-- latch's line is where the reset is 0 and where it is not, and what the gates' order gives their writer. Assumes
-- nothing.
use mathlib.Core.Path.{◌≡◌}
use mathlib.Core.Bool.{Bool, true, false}
use mathlib.Core.List.{List, [], ◌∷◌}
use Prim.Native.Nat.{ℕ, ◌+◌, ◌*◌, ◌<◌, ◌≤◌}
use native.Mathlib.Omega.{arith}
use borrow.Author.Tests.{eq-eqb, ne_eqb}
use lib.ListN.{length, get_or, take}
use Rattle.text.proofs.WriterLaws.{joined_same}
use Rattle.netlist.specs.Layout.{input_count, latch_count, output_count, gate_count, next_at, reset_at, operands_at, size_of}
use Rattle.netlist.specs.Literals.{literal_of}
use Rattle.netlist.specs.Valid.{is_netlist}
use Rattle.netlist.proofs.ValidLaws.{valid}
use Rattle.aiger.specs.Rows.{line}
use Rattle.aiger.specs.Format.{output_line}
use Rattle.aiger.proofs.FormatLaws.{maximum-same, inputs-same, latches-same, outputs-same, gates-same, output_line-same, trimmed_same}
use Rattle.packed.specs.Format.{packed_latch_row, packed_latch, packed_gate, packed_with}

module _ (next reset : ℕ) where
  pub latch_plain : reset ≡ 0 → packed_latch_row false next reset ≡ line next []
  unfolding packed_latch_row
  latch_plain h = rw (eq-eqb reset 0 h)

  pub latch_reset : (explicit : Bool) → (reset ≡ 0 → ⊥) → packed_latch_row explicit next reset ≡ line next (reset ∷ [])
  unfolding packed_latch_row
  latch_reset explicit h = rw (ne_eqb reset 0 h)

-- what the writers of a netlist's file are asked
pub file_asked : (net : List ℕ) → is_netlist net ≡ true
    → ((size_of net ≤ length net) × (input_count net + latch_count net + gate_count net ≤ 4095)) × (is_netlist net ≡ true)
file_asked net h = let v = valid net h in ((v.long, omega arith), h)

-- gate k of a netlist, whose operands stand from `from` on, and whose gates' variables start with `first`
pub gate-ordered : (net : List ℕ) (from first k : ℕ) → is_netlist net ≡ true → k < gate_count net
    → from ≡ 5 + 2 * latch_count net + output_count net → first ≡ input_count net + latch_count net + 1
    → ((from + 2 * k + 1 < length net) × (first + k < 32768))
    × ((get_or net (from + 2 * k) 0 < literal_of (first + k) false) × (get_or net (from + 2 * k + 1) 0 ≤ get_or net (from + 2 * k) 0))
gate-ordered net from first k h l e f =
    let v = valid net h in
    rw (e, f) ((omega arith, omega arith), (v.below k l, v.order k l))

-- ---- two lists with the same numbers, as far as the header of the second counts

module _ (a b : List ℕ) (same : (i : ℕ) → i < size_of b → get_or a i 0 ≡ get_or b i 0) where
  latch_same : (explicit : ℕ → Bool) (k : ℕ) → k < latch_count b → packed_latch a explicit k ≡ packed_latch b explicit k
  unfolding packed_latch
  latch_same explicit k h = rw (same (next_at k) (omega arith), same (reset_at k) (omega arith))

  gate_same : (k : ℕ) → k < gate_count b → packed_gate a k ≡ packed_gate b k
  unfolding packed_gate
  gate_same k h =
      rw (
        inputs-same a b same,
        latches-same a b same,
        outputs-same a b same,
        same (operands_at b k) (omega arith),
        same (operands_at b k + 1) (omega arith),
      )

  pub packed-same : (explicit : ℕ → Bool) → packed_with a explicit ≡ packed_with b explicit
  unfolding packed_with
  packed-same explicit =
      rw (
        maximum-same a b same,
        inputs-same a b same,
        latches-same a b same,
        outputs-same a b same,
        gates-same a b same,
        joined_same (packed_latch a explicit) (packed_latch b explicit) (latch_count b) (latch_same explicit),
        joined_same (output_line a) (output_line b) (output_count b) (output_line-same a b same),
        joined_same (packed_gate a) (packed_gate b) (gate_count b) gate_same,
      )

-- a netlist without its surplus
pub trimmed_packed : (net : List ℕ) (explicit : ℕ → Bool) → packed_with (take (size_of net) net) explicit ≡ packed_with net explicit
trimmed_packed net = packed-same (take (size_of net) net) net (trimmed_same net)
