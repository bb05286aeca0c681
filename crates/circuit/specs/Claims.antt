-- What the contract of build claims of the gates of `==` and of checked, gate by gate, and of the numbers of a netlist.
-- Assumes nothing.
use Rattle.std.specs.Prelude.{ℕ, ◌+◌, ◌-◌, ◌*◌, ◌<◌, ◌≤◌, ◌≡◌, Bool, true, false, List, [], ◌∷◌, ◌++◌, length, get_or}
use Rattle.netlist.specs.Layout.{input_count, latch_count, output_count, gate_count, next_at, reset_at, output_at, operands_at, latch_variable}
use Rattle.netlist.specs.Literals.{literal_of}
use Rattle.assertion.specs.Graph.{Run, signals_from, constants_from, signal, constant, alike, Edge, Graph, signal_bits, constant_bits, is_terminal, operators}
use Rattle.circuit.specs.Gates.{lit, inv, Gate, gate, Piece}
use Rattle.circuit.specs.Build.{Two, bit_literal, formula, first_gate, judged, accepted, gates_of}
use Rattle.circuit.specs.Checked.{gates_with, outputs_with}
use Rattle.circuit.specs.Count.{formula_gates, terminals}

abbrev pub gate_at : List Gate → ℕ → Gate
gate_at xs k = get_or xs k (gate 0 0)

-- ---- `==`, for every width: "3 gates a bit, bit 0 first, made as for `=`, then width − 1 more that join them in bit
-- order"
-- the literal that bit i of the two is alike, where n is the first of the variables
abbrev pub same_at : ℕ → ℕ → ℕ
same_at n i = inv (lit (n + 3 * i + 2))

-- of gates over s signal bits from the variable n on, that compare w bits of a and b
pub record AlikeGates (s n : ℕ) (a b : Run) (w : ℕ) (p : Piece) : Type 0 where
  pub count : length p.gates ≡ 4 * w - 1
  -- bit i: both, neither, neither of those
  pub both : (i : ℕ) → i < w → gate_at p.gates (3 * i) ≡ gate (bit_literal s a i) (bit_literal s b i)
  pub neither : (i : ℕ) → i < w → gate_at p.gates (3 * i + 1) ≡ gate (inv (bit_literal s a i)) (inv (bit_literal s b i))
  pub differ : (i : ℕ) → i < w → gate_at p.gates (3 * i + 2) ≡ gate (inv (lit (n + 3 * i))) (inv (lit (n + 3 * i + 1)))
  -- bits 0 and 1 are joined behind all bits; then what is joined and the next bit
  pub first-join : 2 ≤ w → gate_at p.gates (3 * w) ≡ gate (same_at n 0) (same_at n 1)
  pub next-join : (j : ℕ) → j + 2 < w → gate_at p.gates (3 * w + (j + 1)) ≡ gate (lit (n + 3 * w + j)) (same_at n (j + 2))
  -- the value is the last gate's; of one bit, the bit's
  pub last : 2 ≤ w → p.out ≡ lit (n + (4 * w - 2))
  pub alone : w ≡ 1 → p.out ≡ same_at n 0

-- THE CLAIM: so are the gates of `==`, "it enters F thus and counts as that many operators in the bound"; and a bit of
-- a name has the literal of that signal bit or constant bit
pub record AlikeMeans : Type 0 where
  pub gates : (s n : ℕ) (a b : Run) (w : ℕ) → AlikeGates s n a b w (formula s n (alike a b w))
  pub costs : (a b : Run) (w : ℕ) → formula_gates (alike a b w) ≡ 4 * w - 1
  pub counts : (a b : Run) (w : ℕ) → operators (alike a b w) ≡ 4 * w - 1
  pub signal_bit : (s n j i : ℕ) → bit_literal s (signals_from j) i ≡ (formula s n (signal (j + i))).out
  pub constant-bit : (s n j i : ℕ) → bit_literal s (constants_from j) i ≡ (formula s n (constant (j + i))).out

-- ---- checked, for every graph: "each one gate, all these first, then joined in edge order"
-- happy-now and condemned-now of edge i, from 0: the literals that feed its latches
abbrev pub now_at : Graph → ℕ → Two
now_at g i = get_or (judged g).outs i (record { happy = 0; condemned = 0 })

-- the inverse of gate k, from 0, where n is the variable of the first gate of checked: alive of terminal edge k, and
-- behind these what is joined
abbrev pub inverse_at : ℕ → ℕ → ℕ
inverse_at n k = literal_of (n + k) true

-- of all gates xs, of which those of checked stand behind the first a, with n the variable of the first of these, T
-- terminal edges and the literal `second`
pub record CheckedGates (g : Graph) (xs : List Gate) (a n t second : ℕ) : Type 0 where
  -- "2T − 1 are added when T is at least 1"
  pub count : length xs ≡ a + (2 * t - 1)
  -- a terminal edge's gate stands behind those of the terminal edges before it: NOT condemned-now AND NOT happy-now
  pub alive : (before after : List Edge) (e : Edge) → g.edges ≡ before ++ (e ∷ after) → is_terminal g e ≡ true
      → gate_at xs (a + terminals g before) ≡ gate (inv (now_at g (length before)).condemned) (inv (now_at g (length before)).happy)
  -- the first two are joined behind all of these; then what is joined and the next
  pub first-join : 2 ≤ t → gate_at xs (a + t) ≡ gate (inv (inverse_at n 0)) (inv (inverse_at n 1))
  pub next-join : (j : ℕ) → j + 2 < t → gate_at xs (a + t + (j + 1)) ≡ gate (inv (inverse_at n (t + j))) (inv (inverse_at n (j + 2)))
  -- checked is the last gate's inverse; of one terminal edge, its alive; "no terminal edge giving 0"
  pub last : 1 ≤ t → second ≡ inverse_at n (2 * t - 2)
  pub none : t ≡ 0 → second ≡ 0

-- THE CLAIM of gates and outputs: "The gates follow those of accept", and without it they are as before
pub record CheckedMeans (g : Graph) : Type 0 where
  pub second : ℕ
  pub outputs : outputs_with true g ≡ (accepted g).out ∷ second ∷ []
  pub added : List Gate
  pub behind : gates_with true g ≡ gates_of g ++ added
  pub gates : CheckedGates g (gates_with true g) (length (gates_of g)) (first_gate g + length (gates_of g)) (terminals g g.edges) second
  pub without : (gates_with false g ≡ gates_of g) × (outputs_with false g ≡ (accepted g).out ∷ [])

-- THE CLAIM of the numbers themselves, wherever they stand: they have these outputs and gates and no others, in this
-- order, and happy-now and condemned-now are what feeds an edge's latches
pub record NumbersMean (checked : Bool) (g : Graph) (net : List ℕ) : Type 0 where
  -- "Inputs: init, then signals. Latches: constants in order (next and reset are their own literal), then happy and
  -- condemned for each edge, reset 0"
  pub inputs : input_count net ≡ 1 + signal_bits g
  pub latches : latch_count net ≡ constant_bits g + 2 * length g.edges
  pub constants : (j : ℕ) → j < constant_bits g → (get_or net (next_at j) 0 ≡ literal_of (latch_variable net j) false) × (get_or net (reset_at j) 0 ≡ literal_of (latch_variable net j) false)
  pub resets : (i : ℕ) → i < 2 * length g.edges → get_or net (reset_at (constant_bits g + i)) 0 ≡ 0
  pub outputs : output_count net ≡ length (outputs_with checked g)
  pub output : (k : ℕ) → k < length (outputs_with checked g) → get_or net (output_at net k) 0 ≡ get_or (outputs_with checked g) k 0
  pub gates : gate_count net ≡ length (gates_with checked g)
  pub operands : (k : ℕ) → k < length (gates_with checked g)
      → (get_or net (operands_at net k) 0 ≡ (gate_at (gates_with checked g) k).left) × (get_or net (operands_at net k + 1) 0 ≡ (gate_at (gates_with checked g) k).right)
  pub happy : (i : ℕ) → i < length g.edges → get_or net (next_at (constant_bits g + 2 * i)) 0 ≡ (now_at g i).happy
  pub condemned : (i : ℕ) → i < length g.edges → get_or net (next_at (constant_bits g + 2 * i + 1)) 0 ≡ (now_at g i).condemned
