-- A netlist and its files are settled by the numbers that its header counts: surplus numbers say nothing. Assumes nothing.
use mathlib.Core.Path.{◌≡◌, refl, sym, ap, ap₂, ◌∙◌}
use mathlib.Core.Bool.{Bool, true, ◌&&◌}
use mathlib.Core.List.{List}
use Prim.Native.Nat.{ℕ, zero, suc, ◌+◌, ◌<◌, ◌≤◌}
use native.Mathlib.Omega.{arith}
use borrow.Author.Tests.{le-leb}
use lib.Dec.{leb}
use lib.ListN.{length, get_or, take, length-take}
use lib.Seq.{get_or-take, length-take-le}
use Rattle.text.proofs.WriterLaws.{joined_same}
use Rattle.netlist.specs.Layout.{maximum, input_count, latch_count, output_count, gate_count, next_at, reset_at, output_at, operands_at, size_of}
use Rattle.netlist.specs.Lanes.{each}
use Rattle.netlist.specs.Valid.{header_ok, is_within, is_free, latch_ok, free_count, output_ok, gate_ok, is_outline, is_netlist}
use Rattle.netlist.proofs.EachLaws.{each_same}
use Rattle.netlist.proofs.ValidLaws.{valid}
use Rattle.aiger.specs.Format.{latch_line, output_line, gate_line, file_with}

-- ---- two lists with the same numbers, as far as the header of the second counts

module _ (a b : List ℕ) (same : (i : ℕ) → i < size_of b → get_or a i 0 ≡ get_or b i 0) where
  pub maximum-same : maximum a ≡ maximum b
  maximum-same = same 0 (omega arith)

  pub inputs-same : input_count a ≡ input_count b
  inputs-same = same 1 (omega arith)

  pub latches-same : latch_count a ≡ latch_count b
  latches-same = same 2 (omega arith)

  pub outputs-same : output_count a ≡ output_count b
  outputs-same = same 3 (omega arith)

  pub gates-same : gate_count a ≡ gate_count b
  gates-same = same 4 (omega arith)

  size_same : size_of a ≡ size_of b
  size_same = rw (latches-same, outputs-same, gates-same)

  -- ---- the file

  latch_line-same : (explicit : ℕ → Bool) (k : ℕ) → k < latch_count b → latch_line a explicit k ≡ latch_line b explicit k
  unfolding latch_line
  latch_line-same explicit k h = rw (inputs-same, same (next_at k) (omega arith), same (reset_at k) (omega arith))

  pub output_line-same : (k : ℕ) → k < output_count b → output_line a k ≡ output_line b k
  unfolding output_line
  output_line-same k h = rw (latches-same, same (output_at b k) (omega arith))

  gate_line-same : (k : ℕ) → k < gate_count b → gate_line a k ≡ gate_line b k
  unfolding gate_line
  gate_line-same k h =
      rw (inputs-same, latches-same, outputs-same, same (operands_at b k) (omega arith), same (operands_at b k + 1) (omega arith))

  pub file-same : (explicit : ℕ → Bool) → file_with a explicit ≡ file_with b explicit
  unfolding file_with
  file-same explicit =
      rw (
        maximum-same,
        inputs-same,
        latches-same,
        outputs-same,
        gates-same,
        joined_same (latch_line a explicit) (latch_line b explicit) (latch_count b) (latch_line-same explicit),
        joined_same (output_line a) (output_line b) (output_count b) output_line-same,
        joined_same (gate_line a) (gate_line b) (gate_count b) gate_line-same,
      )

  -- ---- whether they are a netlist

  within_same : (lit : ℕ) → is_within a lit ≡ is_within b lit
  unfolding is_within
  within_same lit = rw maximum-same

  free-same : (k : ℕ) → k < latch_count b → is_free a k ≡ is_free b k
  unfolding is_free
  free-same k h = rw (same (reset_at k) (omega arith))

  count_same : (k : ℕ) → k ≤ latch_count b → free_count a k ≡ free_count b k
  unfolding free_count
  count_same zero h = refl
  count_same (suc k) h = rw (count_same k (omega arith), free-same k (omega arith))

  latch_same : (k : ℕ) → k < latch_count b → latch_ok a k ≡ latch_ok b k
  unfolding latch_ok
  latch_same k h =
      rw (within_same (get_or a (next_at k) 0), free-same k h, inputs-same, same (next_at k) (omega arith), same (reset_at k) (omega arith))

  output-same : (k : ℕ) → k < output_count b → output_ok a k ≡ output_ok b k
  unfolding output_ok
  output-same k h = rw (latches-same, within_same (get_or a (output_at b k) 0), same (output_at b k) (omega arith))

  gate_same : (k : ℕ) → k < gate_count b → gate_ok a k ≡ gate_ok b k
  unfolding gate_ok
  gate_same k h =
      rw (inputs-same, latches-same, outputs-same, same (operands_at b k) (omega arith), same (operands_at b k + 1) (omega arith))

  header-same : header_ok (maximum a) (input_count a) (latch_count a) (output_count a) (gate_count a)
      ≡ header_ok (maximum b) (input_count b) (latch_count b) (output_count b) (gate_count b)
  header-same = rw (maximum-same, inputs-same, latches-same, outputs-same, gates-same)

  each-output : each (output_count a) (output_ok a) ≡ each (output_count b) (output_ok b)
  each-output = rw outputs-same (each_same (output_count b) (output_ok a) (output_ok b) output-same)

  each_latch : each (latch_count a) (latch_ok a) ≡ each (latch_count b) (latch_ok b)
  each_latch = rw latches-same (each_same (latch_count b) (latch_ok a) (latch_ok b) latch_same)

  few-same : leb (free_count a (latch_count a)) 6 ≡ leb (free_count b (latch_count b)) 6
  few-same = rw (latches-same, count_same (latch_count b) (omega arith))

  each-gate : each (gate_count a) (gate_ok a) ≡ each (gate_count b) (gate_ok b)
  each-gate = rw gates-same (each_same (gate_count b) (gate_ok a) (gate_ok b) gate_same)

  pub netlist-same : is_netlist b ≡ true → size_of b ≤ length a → is_netlist a ≡ true
  unfolding is_netlist is_outline
  netlist-same e long =
      let v = valid b e in
      let size = size_same in
      let five = le-leb 5 (length a) (omega arith) ∙ sym (le-leb 5 (length b) (omega arith)) in
      let enough = le-leb (size_of a) (length a) (omega arith) ∙ sym (le-leb (size_of b) (length b) v.long) in
      ap₂ ◌&&◌ (ap₂ ◌&&◌ five (ap₂ ◌&&◌ header-same (ap₂ ◌&&◌ enough (ap₂ ◌&&◌ each-output (ap₂ ◌&&◌ each_latch few-same))))) each-gate ∙ e

-- ---- a netlist without its surplus

pub trimmed_same : (net : List ℕ) (i : ℕ) → i < size_of net → get_or (take (size_of net) net) i 0 ≡ get_or net i 0
trimmed_same net i h = get_or-take (size_of net) net i 0 h

pub trimmed_size : (net : List ℕ) → size_of (take (size_of net) net) ≡ size_of net
trimmed_size net = size_same (take (size_of net) net) net (trimmed_same net)

pub trimmed_file : (net : List ℕ) (explicit : ℕ → Bool) → file_with (take (size_of net) net) explicit ≡ file_with net explicit
trimmed_file net = file-same (take (size_of net) net) net (trimmed_same net)

pub trimmed_length : (net : List ℕ) → is_netlist net ≡ true → length (take (size_of net) net) ≡ size_of net
trimmed_length net e = length-take-le (size_of net) net (valid net e).long

pub trimmed_netlist : (net : List ℕ) → is_netlist net ≡ true → is_netlist (take (size_of net) net) ≡ true
trimmed_netlist net e = let l = trimmed_length net e in netlist-same (take (size_of net) net) net (trimmed_same net) e (omega arith)

-- ---- numbers whose front is a netlist's

module _ (a b : List ℕ) (e : take (size_of b) a ≡ take (size_of b) b) where
  pub fronts_same : (i : ℕ) → i < size_of b → get_or a i 0 ≡ get_or b i 0
  fronts_same i l = sym (get_or-take (size_of b) a i 0 l) ∙ ap (λ (x : List ℕ). get_or x i 0) e ∙ trimmed_same b i l

  pub fronts_netlist : is_netlist b ≡ true → is_netlist a ≡ true
  fronts_netlist h =
      let long : size_of b ≤ length a = omega (arith, ap length e, trimmed_length b h, length-take (size_of b) a) in
      netlist-same a b fronts_same h long
