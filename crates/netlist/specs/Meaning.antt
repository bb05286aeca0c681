-- What a netlist computes in a cycle, over any kind of value: a Bool for one lane, a word for all 64
-- together. Assumes nothing.
use Rattle.std.specs.Prelude.{Bool, false, not, cond, ◌&&◌, List, [], ◌∷◌, ◌++◌, ℕ, zero, suc, ◌+◌, ◌-◌, ◌*◌, ◌^◌, get_or, eqb}
use Rattle.std.specs.Int.Bits.{bit_and, bit_xor}
use Rattle.netlist.specs.Layout.{latch_count, gate_count, next_at, output_at, operands_at}
use Rattle.netlist.specs.Literals.{variable_of, is_inverted}

-- what a netlist needs of its values: false, NOT and AND
pub record Ops (A : Type 0) : Type 0 where
  pub low : A
  pub invert : A → A
  pub both : A → A → A

abbrev pub bools : Ops Bool
bools = record { low = false; invert = not; both = ◌&&◌ }

-- in all lanes at once
abbrev pub words : Ops ℕ
words = record { low = 0; invert = λ w. bit_xor w (2 ^ 64 - 1); both = bit_and }

module _ {A : Type 0} (o : Ops A) where
  -- a value, inverted or not
  unfoldable pub signed : Bool → A → A
  signed inverted a = cond inverted (o.invert a) a

  -- the value of a literal, where vs has the values of the variables from 0
  unfoldable pub lit_of : List A → ℕ → A
  lit_of vs lit = signed (is_inverted lit) (get_or vs (variable_of lit) o.low)

  -- an input's byte: `1` is true, and `0` false
  unfoldable pub bit_of : ℕ → A
  bit_of b = cond (eqb b 49) (o.invert o.low) o.low

  -- the AND of the two operands that stand at `at` in the netlist
  unfoldable pub gate_of : List ℕ → ℕ → List A → A
  gate_of net at vs = o.both (lit_of vs (get_or net at 0)) (lit_of vs (get_or net (at + 1) 0))

  -- vs, with the values of the first k gates behind it; their operands stand from `at` on
  unfoldable pub gates_of : List ℕ → ℕ → ℕ → List A → List A
  gates_of net at zero vs = vs
  gates_of net at (suc k) vs = gates_of net at k vs ++ (gate_of net (at + 2 * k) (gates_of net at k vs) ∷ [])

  -- the values of variable 0, the inputs and the latches
  unfoldable pub front : List A → List A → List A
  front ins latches = (o.low ∷ ins) ++ latches

  -- the values of all variables in a cycle, from those of the inputs and the latches
  unfoldable pub values_of : List ℕ → List A → List A → List A
  values_of net ins latches = gates_of net (operands_at net 0) (gate_count net) (front ins latches)

  -- the next values of the first k latches, all taken from the same values of the variables
  unfoldable pub nexts_of : List ℕ → ℕ → List A → List A
  nexts_of net zero vs = []
  nexts_of net (suc k) vs = nexts_of net k vs ++ (lit_of vs (get_or net (next_at k) 0) ∷ [])

  unfoldable pub next_of : List ℕ → List A → List A
  next_of net vs = nexts_of net (latch_count net) vs

  -- the value of output k
  unfoldable pub output_of : List ℕ → ℕ → List A → A
  output_of net k vs = lit_of vs (get_or net (output_at net k) 0)
