-- Which netlist a file with gates in no order gives, and where gates wait on each other, said without placing anything.
-- Assumes nothing.
use Rattle.std.specs.Prelude.{◌≡◌, Bool, true, List, ◌⊎◌, ℕ, ◌+◌, ◌<◌, ◌≤◌, length, get_or}
use Rattle.netlist.specs.Layout.{latch_count, output_count, gate_count, next_at, reset_at, output_at, operands_at, size_of}
use Rattle.netlist.specs.Literals.{variable_of, is_inverted}
use Rattle.gate_order.specs.Loose.{first_gate, left_of, right_of}

-- ---- the order

-- a variable is placed before place n: the constant, an input or a latch, or one of the first n gates of the order
abbrev pub Before : (loose order : List ℕ) → ℕ → ℕ → Type 0
Before loose order n x = (x < first_gate loose) ⊎ ((m : ℕ) × (m < n) × (get_or order m 0 ≡ x))

-- the gate of variable x can take place n: it is not placed yet, and its operands are
pub record Ready (loose order : List ℕ) (n x : ℕ) : Type 0 where
  pub from : first_gate loose ≤ x
  pub to : x < first_gate loose + gate_count loose
  pub fresh : (m : ℕ) → m < n → get_or order m 0 ≡ x → ⊥
  pub left : Before loose order n (variable_of (left_of loose x))
  pub right : Before loose order n (variable_of (right_of loose x))

-- "The result takes, at each place, the gate of lowest old literal whose operands are already placed"; the variables of
-- the gates, in the order of their places
pub record Order (loose order : List ℕ) : Type 0 where
  pub whole : length order ≡ gate_count loose
  pub ready : (n : ℕ) → n < gate_count loose → Ready loose order n (get_or order n 0)
  pub lowest : (n x : ℕ) → n < gate_count loose → Ready loose order n x → get_or order n 0 ≤ x

-- ---- "and renumbers"

-- a gate's variable becomes that of its place; the others stay
abbrev pub NewVariable : (loose order : List ℕ) → ℕ → ℕ → Type 0
NewVariable loose order x y = ((x < first_gate loose) × (y ≡ x)) ⊎ ((m : ℕ) × (m < gate_count loose) × (get_or order m 0 ≡ x) × (y ≡ first_gate loose + m))

-- a literal keeps its sign
pub record NewLiteral (loose order : List ℕ) (old new : ℕ) : Type 0 where
  pub variable : NewVariable loose order (variable_of old) (variable_of new)
  pub sign : is_inverted new ≡ is_inverted old

-- the operands r0 and r1 are those of the gate of old variable x, the larger first
pub record NewGate (loose order : List ℕ) (x r0 r1 : ℕ) : Type 0 where
  pub larger : r1 ≤ r0
  pub operands : (NewLiteral loose order (left_of loose x) r0 × NewLiteral loose order (right_of loose x) r1)
      ⊎ (NewLiteral loose order (left_of loose x) r1 × NewLiteral loose order (right_of loose x) r0)

-- THE RESULT: net is the netlist of the loose numbers, its gates in their order
pub record PlacedAs (loose net : List ℕ) : Type 0 where
  pub order : List ℕ
  pub ordered : Order loose order
  pub size : length net ≡ size_of loose
  pub header : (k : ℕ) → k < 5 → get_or net k 0 ≡ get_or loose k 0
  pub next : (k : ℕ) → k < latch_count loose → NewLiteral loose order (get_or loose (next_at k) 0) (get_or net (next_at k) 0)
  pub reset : (k : ℕ) → k < latch_count loose → get_or net (reset_at k) 0 ≡ get_or loose (reset_at k) 0
  pub output : (k : ℕ) → k < output_count loose → NewLiteral loose order (get_or loose (output_at loose k) 0) (get_or net (output_at loose k) 0)
  pub gate : (m : ℕ) → m < gate_count loose → NewGate loose order (get_or order m 0) (get_or net (operands_at loose m) 0) (get_or net (operands_at loose m + 1) 0)

-- ---- "gates that wait on each other, or a gate on itself": one gate at least, and each has an operand among them
pub record Stuck (loose : List ℕ) : Type 0 where
  pub waits : ℕ → Bool
  pub gates : (x : ℕ) → waits x ≡ true → (first_gate loose ≤ x) × (x < first_gate loose + gate_count loose)
  pub one : ℕ
  pub some : waits one ≡ true
  pub on : (x : ℕ) → waits x ≡ true → (waits (variable_of (left_of loose x)) ≡ true) ⊎ (waits (variable_of (right_of loose x)) ≡ true)
