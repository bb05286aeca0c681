-- What the functions promise of an order that is under way, and of what is stored by it. Assumes nothing.
use Rattle.std.specs.Prelude.{Option, Some, None, ◌≡◌, Bool, true, false, cond, not, ◌&&◌, ◌||◌, List, [], ◌∷◌, ℕ, ◌+◌, ◌<◌, ◌≤◌, eqb, ltb, length, get_or, take}
use Rattle.netlist.specs.declared.literals.Variable.{Variable}
use Rattle.netlist.specs.Layout.{maximum, input_count, latch_count, output_count, gate_count, next_at, reset_at, output_at, operands_at, size_of}
use Rattle.netlist.specs.Literals.{literal_of, variable_of, is_inverted}
use Rattle.gate_order.specs.Loose.{first_gate, left_of, right_of}
use Rattle.gate_order.specs.Placing.{member, ordered, waiting, placing_of}
use Rattle.gate_order.specs.Renumbered.{larger_first, new_variable}
use Rattle.aiger_order.specs.declared.Gates.{Gates}

-- the gates of loose numbers
pub record GatesOf (loose : List ℕ) (g : Gates) : Type 0 where
  pub first : g.first.0 ≡ first_gate loose
  pub count : g.count ≡ gate_count loose
  pub at : g.at ≡ operands_at loose 0
  pub long : size_of loose ≤ length loose
  pub small : first_gate loose + gate_count loose ≤ 4096

-- ---- the new variables, one for each old one, 65,535 for one that is not placed

unfoldable pub placed_in : List ℕ → ℕ → Bool
placed_in news v = not (eqb (get_or news v 0) 65535)

unfoldable pub ready_in : (loose news : List ℕ) → ℕ → Bool
ready_in loose news x = not (placed_in news x) && (placed_in news (variable_of (left_of loose x)) && placed_in news (variable_of (right_of loose x)))

-- those of an order under way
pub record Stands (loose order news : List ℕ) : Type 0 where
  pub long : length news ≡ 4096
  pub at : (v : ℕ) → v < 4096 → get_or news v 0 ≡ cond (ltb v (first_gate loose) || member v order) (new_variable loose order v) 65535

-- those below `first` at the start
pub record Starts (first : ℕ) (news : List ℕ) : Type 0 where
  pub long : length news ≡ 4096
  pub at : (v : ℕ) → v < 4096 → get_or news v 0 ≡ cond (ltb v first) v 65535

-- the gate that was chosen, or `end` where none was
unfoldable pub or_end : ℕ → Option Variable → ℕ
or_end end None = end
or_end end (Some var) = var.0

-- from `low` on, all below `r` are placed
pub record Passed (news : List ℕ) (low end r : ℕ) : Type 0 where
  pub from : low ≤ r
  pub to : r ≤ end
  pub placed : (v : ℕ) → low ≤ v → v < r → placed_in news v ≡ true

-- the order of all gates stands first in a list, and the new variables are those by it
pub record Ordered (loose news order : List ℕ) : Type 0 where
  pub long : length order ≡ 4096
  pub is : placing_of loose ≡ ordered (take (gate_count loose) order)
  pub stands : Stands loose (take (gate_count loose) order) news

-- or there is none
unfoldable pub Found : (loose news order : List ℕ) → Bool → Type 0
Found loose news order true = Ordered loose news order
Found loose news order false = (some : List ℕ) × (placing_of loose ≡ waiting some)

-- ---- the numbers by the new variables

-- each variable of the file has one
pub record Numbered (loose news : List ℕ) : Type 0 where
  pub long : length news ≡ 4096
  pub all : (v : ℕ) → v ≤ maximum loose → get_or news v 0 < 32768

unfoldable pub literal_in : List ℕ → ℕ → ℕ
literal_in news lit = literal_of (get_or news (variable_of lit) 0) (is_inverted lit)

abbrev pub header_in : List ℕ → List ℕ
header_in loose = maximum loose ∷ input_count loose ∷ latch_count loose ∷ output_count loose ∷ gate_count loose ∷ []

unfoldable pub latch_in : (loose news : List ℕ) → ℕ → List ℕ
latch_in loose news k = literal_in news (get_or loose (next_at k) 0) ∷ get_or loose (reset_at k) 0 ∷ []

unfoldable pub output_in : (loose news : List ℕ) → ℕ → List ℕ
output_in loose news k = literal_in news (get_or loose (output_at loose k) 0) ∷ []

-- the gate of old variable x, and the one at place m
unfoldable pub gate_in : (loose news : List ℕ) → ℕ → List ℕ
gate_in loose news x = larger_first (literal_in news (left_of loose x)) (literal_in news (right_of loose x))

abbrev pub gate_at : (loose news order : List ℕ) → ℕ → List ℕ
gate_at loose news order m = gate_in loose news (get_or order m 0)
