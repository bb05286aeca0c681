-- How long the parts of a packed file are, and that no packed file of a netlist has more than 28,706 bytes. Assumes
-- nothing.
use mathlib.Core.Path.{◌≡◌, refl}
use mathlib.Core.Bool.{Bool, true, false, not, cond, ◌&&◌}
use mathlib.Core.List.{List, [], ◌∷◌}
use mathlib.Core.Logic.{⊎_elim}
use Prim.Native.Nat.{ℕ, zero, suc, ◌+◌, ◌-◌, ◌*◌, ◌/◌, ◌<◌, ◌≤◌}
use native.Mathlib.Omega.{arith}
use borrow.Author.Tests.{leb-true}
use lib.Dec.{eqb, leb}
use lib.ListN.{length, get_or, length-append}
use Rattle.text.specs.Numbers.{digits}
use Rattle.text.specs.Writer.{joined}
use Rattle.text.proofs.NumberLaws.{digits-small, digits_more, digits-length, digits_ind}
use Rattle.netlist.specs.Layout.{maximum, input_count, latch_count, output_count, gate_count, next_at, reset_at, operands_at, latch_variable, gate_variable}
use Rattle.netlist.specs.Literals.{literal_of}
use Rattle.netlist.specs.Valid.{is_free, free_count, is_netlist}
use Rattle.netlist.proofs.ValidLaws.{valid, outline_of}
use Rattle.aiger.specs.Rows.{line}
use Rattle.aiger.specs.Format.{output_line}
use Rattle.aiger.proofs.LengthLaws.{line-one, line-two, joined_length, small, own, output-length}
use Rattle.packed.specs.Runs.{run}
use Rattle.packed.specs.Format.{packed_header, packed_latch_row, gate_runs, packed_latch, packed_gate, packed_with}
use Rattle.packed.proofs.RunLaws.{run_length}

-- ---- of small numbers

-- one digit, and at most one more for each ten
digits_tens : (n : ℕ) → length (digits n) ≤ 1 + n / 10
digits_tens =
    digits_ind (λ n. length (digits n) ≤ 1 + n / 10) (λ n h. rw (digits-small n h) (omega arith))
    (λ n h ih. rw (digits_more n h, length-append) (omega arith))

-- 20 bytes where there are few inputs and few gates
header-length : (m i l o a : ℕ) → m < 10000 → l < 10000 → o < 10 → length (packed_header m i l o a) ≤ 20 + i / 10 + a / 10
unfolding packed_header line
header-length m i l o a hm hl ho =
    simp length-append (omega (arith, digits-length 3 m hm, digits_tens i, digits-length 3 l hl, digits-length 0 o ho, digits_tens a))

-- a number and a digit
line-digit : (n d : ℕ) → n < 10000 → d < 10 → length (line n (d ∷ [])) ≤ 7
unfolding line
line-digit n d hn hd = simp length-append (omega (arith, digits-length 3 n hn, digits-length 0 d hd))

-- a latch: three bytes more where it is uninitialised
latch_length : (explicit : Bool) (next reset : ℕ) → next < 10000 → reset < 10000 → length (packed_latch_row explicit next reset) ≤ 7 + 3 * cond (not (leb reset 1)) 1 0
unfolding packed_latch_row
latch_length explicit next reset hn hr = go (eqb reset 0 && not explicit) (leb reset 1) refl
  where
    go : (t u : Bool) → leb reset 1 ≡ u → length (cond t (line next []) (line next (reset ∷ []))) ≤ 7 + 3 * cond (not u) 1 0
    go true u h = omega (arith, line-one next hn)
    go false true h = line-digit next reset hn (let l = leb-true reset 1 h in omega arith)
    go false false h = line-two next reset hn hr

-- two runs of two bytes at most
gate-length : (lit r0 r1 : ℕ) → lit < 16384 → r0 < 16384 → length (gate_runs lit r0 r1) ≤ 4
unfolding gate_runs
gate-length lit r0 r1 hl h0 =
    rw (length-append (run (lit - r0)) (run (r0 - r1))) (omega (arith, run_length 1 (lit - r0) (omega arith), run_length 1 (r0 - r1) (omega arith)))

-- ---- the parts of a netlist's file

module _ (net : List ℕ) (e : is_netlist net ≡ true) where
  packed_latch-length : (explicit : ℕ → Bool) (k : ℕ) → k < latch_count net → length (packed_latch net explicit k) ≤ 7 + 3 * cond (is_free net k) 1 0
  unfolding packed_latch is_free
  packed_latch-length explicit k h =
      let v = valid net e in
      let o = own net (outline_of net e) (latch_variable net k) (omega arith) in
      let next = get_or net (next_at k) 0 in
      let reset = get_or net (reset_at k) 0 in
      let r : reset < 10000 = ⊎_elim (λ s. omega arith) (λ s. omega arith) (v.resets k h) in
      latch_length (explicit k) next reset (small net (outline_of net e) next (v.nexts k h)) r

  packed-latches-length : (explicit : ℕ → Bool) (n : ℕ) → n ≤ latch_count net → length (joined (packed_latch net explicit) n) ≤ 7 * n + 3 * free_count net n
  unfolding free_count
  packed-latches-length explicit zero h = omega arith
  packed-latches-length explicit (suc n) h =
      rw (length-append (joined (packed_latch net explicit) n) (packed_latch net explicit n))
      (omega (arith, packed-latches-length explicit n (omega arith), packed_latch-length explicit n h))

  packed_gate-length : (k : ℕ) → k < gate_count net → length (packed_gate net k) ≤ 4
  unfolding packed_gate
  packed_gate-length k h =
      let v = valid net e in
      let o = own net (outline_of net e) (gate_variable net k) (omega arith) in
      let below = v.below k h in
      gate-length (literal_of (gate_variable net k) false) (get_or net (operands_at net k) 0) (get_or net (operands_at net k + 1) 0) (omega arith) (omega arith)

  -- THE BOUND: with its resets written or not, a netlist's packed file has at most 28,706 bytes: 4,094 latches of 7
  -- bytes, six of them with 3 more, two outputs of 5, and a header of 20. An input or a gate takes a latch's place, and
  -- has fewer bytes
  pub packed-length : (explicit : ℕ → Bool) → length (packed_with net explicit) ≤ 28706
  unfolding packed_with
  packed-length explicit =
      let v = valid net e in
      simp length-append (omega (
        arith,
        header-length (maximum net) (input_count net) (latch_count net) (output_count net) (gate_count net) (omega arith) (omega arith) (omega arith),
        packed-latches-length explicit (latch_count net) (omega arith),
        joined_length (output_line net) 5 (output_count net) (output-length net (outline_of net e)),
        joined_length (packed_gate net) 4 (gate_count net) packed_gate-length,
      ))
