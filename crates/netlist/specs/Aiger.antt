-- What AIGER says of one cycle, free of any order of evaluation, and the claim that the netlist's
-- meaning is just that, in every lane. Assumes nothing.
use Rattle.std.specs.Prelude.{◌≡◌, Bool, true, false, ◌&&◌, List, map, ◌⊎◌, ℕ, suc, ◌+◌, ◌*◌, ◌<◌, ◌≤◌, length, get_or}
use Rattle.netlist.specs.Layout.{maximum, input_count, latch_count, output_count, gate_count, output_at, operands_at, size_of, input_variable, latch_variable, gate_variable}
use Rattle.netlist.specs.Literals.{literal_of}
use Rattle.netlist.specs.Lanes.{lane}
use Rattle.netlist.specs.Meaning.{bools, words, lit_of, values_of, next_of, output_of}
use Rattle.netlist.specs.Valid.{header_ok, latch_ok, free_count, gate_ok, is_outline, is_netlist}

-- v values the variables 0 to M as AIGER asks: variable 0 is false, inputs and latches have the values
-- given, and each gate is the AND of its two operand literals
pub record Satisfies (net : List ℕ) (ins latches v : List Bool) : Type 0 where
  pub whole : length v ≡ maximum net + 1
  pub constant : get_or v 0 true ≡ false
  pub inputs : (k : ℕ) → k < input_count net → get_or v (input_variable k) false ≡ get_or ins k false
  pub latched : (k : ℕ) → k < latch_count net → get_or v (latch_variable net k) false ≡ get_or latches k false
  pub gates : (k : ℕ) → k < gate_count net
      → get_or v (gate_variable net k) false ≡ (lit_of bools v (get_or net (operands_at net k) 0) && lit_of bools v (get_or net (operands_at net k + 1) 0))

-- one lane of a netlist, with its inputs and latches: the meaning satisfies AIGER's equations, and
-- nothing else does
pub record OneLane (net : List ℕ) (ins latches : List Bool) : Type 0 where
  pub satisfies : Satisfies net ins latches (values_of bools net ins latches)
  pub only : (v : List Bool) → Satisfies net ins latches v → v ≡ values_of bools net ins latches

-- lane n of the word meaning is the one-lane meaning of lane n: values, next latches, outputs
pub record SameInLane (n : ℕ) (net : List ℕ) : Type 0 where
  pub values : (ins latches : List ℕ) → map (lane n) (values_of words net ins latches) ≡ values_of bools net (map (lane n) ins) (map (lane n) latches)
  pub next : (vs : List ℕ) → map (lane n) (next_of words net vs) ≡ next_of bools net (map (lane n) vs)
  pub output : (k : ℕ) (vs : List ℕ) → lane n (output_of words net k vs) ≡ output_of bools net k (map (lane n) vs)

-- header, latches and outputs within the limits of document 01: M = I + L + A, M ≤ 4,095, 1 ≤ I ≤ 64, O is 1 or 2; outputs
-- and next literals at most 2M + 1; a reset is 0, 1 or the latch's own literal, at most 6 of them its own
pub record Outlined (net : List ℕ) : Type 0 where
  pub long : 5 + 2 * get_or net 2 0 + get_or net 3 0 + 2 * get_or net 4 0 ≤ length net
  pub sum : get_or net 0 0 ≡ get_or net 1 0 + get_or net 2 0 + get_or net 4 0
  pub most : get_or net 0 0 ≤ 4095
  pub inputs : (1 ≤ get_or net 1 0) × (get_or net 1 0 ≤ 64)
  pub outputs : (1 ≤ get_or net 3 0) × (get_or net 3 0 ≤ 2)
  pub output : (k : ℕ) → k < get_or net 3 0 → get_or net (5 + 2 * get_or net 2 0 + k) 0 ≤ 2 * get_or net 0 0 + 1
  pub next : (k : ℕ) → k < get_or net 2 0 → get_or net (5 + 2 * k) 0 ≤ 2 * get_or net 0 0 + 1
  pub reset : (k : ℕ) → k < get_or net 2 0 → (get_or net (5 + 2 * k + 1) 0 ≤ 1) ⊎ (get_or net (5 + 2 * k + 1) 0 ≡ 2 * (get_or net 1 0 + 1 + k))
  pub free : free_count net (get_or net 2 0) ≤ 6

-- THE OUTLINE: what it is, and that a latch whose reset is above 1 counts as uninitialised
pub record OutlineMeans (net : List ℕ) : Type 0 where
  pub within : is_outline net ≡ true → Outlined net
  pub taken : Outlined net → is_outline net ≡ true
  pub free : (k : ℕ) → (free_count net 0 ≡ 0) × (get_or net (5 + 2 * k + 1) 0 ≤ 1 → free_count net (suc k) ≡ free_count net k)
      × (1 < get_or net (5 + 2 * k + 1) 0 → free_count net (suc k) ≡ free_count net k + 1)

-- THE MEANING: of every netlist, in every lane
pub record Means (net : List ℕ) : Type 0 where
  pub lanes : (n : ℕ) → n < 64 → SameInLane n net
  pub aiger : is_netlist net ≡ true → (ins latches : List Bool) → length ins ≡ input_count net → length latches ≡ latch_count net → OneLane net ins latches
  -- document 02, No. 7: "O may be 1 or 2"
  pub outputs : is_netlist net ≡ true → (1 ≤ output_count net) × (output_count net ≤ 2)
  -- either, wherever the other numbers of the header are within their limits, and no other header
  pub either : (m i l o a : ℕ) → m ≡ i + l + a → m ≤ 4095 → 1 ≤ i → i ≤ 64 → 1 ≤ o → o ≤ 2 → header_ok m i l o a ≡ true
  pub limits : (m i l o a : ℕ) → header_ok m i l o a ≡ true → (m ≡ i + l + a) × (m ≤ 4095) × (1 ≤ i) × (i ≤ 64) × (1 ≤ o) × (o ≤ 2)
  -- numbers with such a header are a netlist wherever their outputs, latches and gates, each by itself, are good
  pub taken : 5 ≤ length net → header_ok (maximum net) (input_count net) (latch_count net) (output_count net) (gate_count net) ≡ true → size_of net ≤ length net
      → ((k : ℕ) → k < output_count net → get_or net (output_at net k) 0 ≤ literal_of (maximum net) true) → ((k : ℕ) → k < latch_count net → latch_ok net k ≡ true)
      → free_count net (latch_count net) ≤ 6 → ((k : ℕ) → k < gate_count net → gate_ok net k ≡ true) → is_netlist net ≡ true
