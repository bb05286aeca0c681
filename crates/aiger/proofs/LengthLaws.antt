-- How long the lines of small numbers are, and that no file of a netlist has more than 65,536 bytes. Assumes nothing.
use mathlib.Core.Path.{◌≡◌}
use mathlib.Core.Bool.{Bool, true, false, not, cond, ◌&&◌}
use mathlib.Core.List.{List, [], ◌∷◌, ◌++◌}
use mathlib.Core.Logic.{⊎_elim}
use Prim.Native.Nat.{ℕ, zero, suc, ◌+◌, ◌*◌, ◌<◌, ◌≤◌}
use native.Mathlib.Nat.{mul-suc}
use native.Mathlib.Omega.{arith}
use lib.Dec.{eqb}
use lib.ListN.{length, get_or, length-append}
use Rattle.text.specs.Numbers.{digits}
use Rattle.text.specs.Writer.{joined}
use Rattle.text.proofs.NumberLaws.{digits-length}
use Rattle.netlist.specs.Layout.{maximum, input_count, latch_count, output_count, gate_count, next_at, reset_at, output_at, operands_at, input_variable, latch_variable, gate_variable}
use Rattle.netlist.specs.Literals.{literal_of, variable_of}
use Rattle.netlist.specs.Valid.{is_outline, is_netlist}
use Rattle.netlist.proofs.LiteralLaws.{literal-plain}
use Rattle.netlist.proofs.ValidLaws.{Outline, outline, valid, outline_of}
use Rattle.aiger.specs.Rows.{line, header_row, literal_row, latch_row, gate_row}
use Rattle.aiger.specs.Format.{input_line, latch_line, output_line, gate_line, file_with}

-- ---- numbers of at most four digits, and lines of them

digits_four : (n : ℕ) → n < 10000 → length (digits n) ≤ 4
digits_four n h = digits-length 3 n (omega arith)

pub line-one : (n : ℕ) → n < 10000 → length (line n []) ≤ 5
unfolding line
line-one n h = rw length-append (omega (arith, digits_four n h))

line-more : (n m : ℕ) (ms : List ℕ) → n < 10000 → length (line n (m ∷ ms)) ≤ 5 + length (line m ms)
unfolding line
line-more n m ms h = rw (length-append (digits n) (32 ∷ line m ms)) (omega (arith, digits_four n h))

pub line-two : (a b : ℕ) → a < 10000 → b < 10000 → length (line a (b ∷ [])) ≤ 10
line-two a b ha hb = omega (arith, line-more a b [] ha, line-one b hb)

line_three : (a b c : ℕ) → a < 10000 → b < 10000 → c < 10000 → length (line a (b ∷ c ∷ [])) ≤ 15
line_three a b c ha hb hc = omega (arith, line-more a b (c ∷ []) ha, line-two b c hb hc)

literal-length : (lit : ℕ) → lit < 10000 → length (literal_row lit) ≤ 5
unfolding literal_row
literal-length lit h = line-one lit h

latch_length : (explicit : Bool) (lit next reset : ℕ) → lit < 10000 → next < 10000 → reset < 10000 → length (latch_row explicit lit next reset) ≤ 15
unfolding latch_row
latch_length explicit lit next reset hl hn hr = go (eqb reset 0 && not explicit)
  where
    go : (t : Bool) → length (cond t (line lit (next ∷ [])) (line lit (next ∷ reset ∷ []))) ≤ 15
    go true = omega (arith, line-two lit next hl hn)
    go false = line_three lit next reset hl hn hr

pub gate-length : (lit r0 r1 : ℕ) → lit < 10000 → r0 < 10000 → r1 < 10000 → length (gate_row lit r0 r1) ≤ 15
unfolding gate_row
gate-length lit r0 r1 hl h0 h1 = line_three lit r0 r1 hl h0 h1

header-length : (m i l o a : ℕ) → m < 10000 → i < 10000 → l < 10000 → o < 10000 → a < 10000 → length (header_row m i l o a) ≤ 29
unfolding header_row
header-length m i l o a hm hi hl ho ha =
    omega (arith, line-more m i (l ∷ o ∷ a ∷ []) hm, line-more i l (o ∷ a ∷ []) hi, line_three l o a hl ho ha)

pub joined_length : (f : ℕ → List ℕ) (c n : ℕ) → ((k : ℕ) → k < n → length (f k) ≤ c) → length (joined f n) ≤ c * n
joined_length f c zero h = omega arith
joined_length f c (suc n) h =
    rw (length-append (joined f n) (f n), mul-suc c n) (omega (arith, joined_length f c n (λ k l. h k (omega arith)), h n (omega arith)))

-- ---- the lines of an outline

module _ (net : List ℕ) (e : is_outline net ≡ true) where
  v : Outline net
  v = outline net e

  -- a literal of the netlist has at most four digits
  pub small : (lit : ℕ) → variable_of lit ≤ maximum net → lit < 10000
  unfolding variable_of
  small lit h = omega (arith, v.small)

  -- and so has the literal of a variable of it
  pub own : (var : ℕ) → var ≤ maximum net → literal_of var false < 10000
  own var h = omega (arith, v.small, literal-plain var)

  input-length : (k : ℕ) → k < input_count net → length (input_line k) ≤ 5
  unfolding input_line
  input-length k h = literal-length (literal_of (input_variable k) false) (own (input_variable k) (omega (arith, v.sum)))

  latch_line-length : (explicit : ℕ → Bool) (k : ℕ) → k < latch_count net → length (latch_line net explicit k) ≤ 15
  unfolding latch_line
  latch_line-length explicit k h =
      let o = own (latch_variable net k) (omega (arith, v.sum)) in
      let next = get_or net (next_at k) 0 in
      let reset = get_or net (reset_at k) 0 in
      let r : reset < 10000 = ⊎_elim (λ s. omega arith) (λ s. omega arith) (v.resets k h) in
      latch_length (explicit k) (literal_of (latch_variable net k) false) next reset o (small next (v.nexts k h)) r

  pub output-length : (k : ℕ) → k < output_count net → length (output_line net k) ≤ 5
  unfolding output_line
  output-length k h = let lit = get_or net (output_at net k) 0 in literal-length lit (small lit (v.outputs k h))

  -- all lines, with any text of at most 15 bytes for each gate, have at most 65,536 bytes
  pub outline_length : (explicit : ℕ → Bool) (gates : List ℕ) → length gates ≤ 15 * gate_count net
      → length (header_row (maximum net) (input_count net) (latch_count net) (output_count net) (gate_count net)
      ++ (joined input_line (input_count net) ++ (joined (latch_line net explicit) (latch_count net) ++ (joined (output_line net) (output_count net) ++ gates)))) ≤ 65536
  outline_length explicit gates h =
      let sum = v.sum in
      let most = v.small in
      let inputs = v.few in
      let outputs = v.most in
      simp length-append (omega (
        arith,
        header-length (maximum net) (input_count net) (latch_count net) (output_count net) (gate_count net) (omega arith) (omega arith) (omega arith) (omega arith) (omega arith),
        joined_length input_line 5 (input_count net) input-length,
        joined_length (latch_line net explicit) 15 (latch_count net) (latch_line-length explicit),
        joined_length (output_line net) 5 (output_count net) output-length,
      ))

-- ---- the lines of a netlist

module _ (net : List ℕ) (e : is_netlist net ≡ true) where
  gate_line-length : (k : ℕ) → k < gate_count net → length (gate_line net k) ≤ 15
  unfolding gate_line
  gate_line-length k h =
      let v = valid net e in
      let o = own net (outline_of net e) (gate_variable net k) (omega arith) in
      let below = v.below k h in
      let order = v.order k h in
      gate-length (literal_of (gate_variable net k) false) (get_or net (operands_at net k) 0) (get_or net (operands_at net k + 1) 0) o (omega arith) (omega arith)

  -- THE BOUND: with its resets written or not, a netlist's file has at most 65,536 bytes
  pub file-length : (explicit : ℕ → Bool) → length (file_with net explicit) ≤ 65536
  unfolding file_with
  file-length explicit = outline_length net (outline_of net e) explicit (joined (gate_line net) (gate_count net)) (joined_length (gate_line net) 15 (gate_count net) gate_line-length)
