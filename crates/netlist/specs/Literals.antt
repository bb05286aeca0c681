-- A variable v has two literals: 2v, and 2v + 1 for its inverse. This is the only place that knows so.
-- Assumes nothing.
use Rattle.std.specs.Prelude.{Bool, cond, ℕ, ◌+◌, ◌*◌, ◌/◌, ◌%◌, eqb}

-- the literal of a variable, or of its inverse
unfoldable pub literal_of : ℕ → Bool → ℕ
literal_of var inverted = 2 * var + cond inverted 1 0

-- the variable of a literal
unfoldable pub variable_of : ℕ → ℕ
variable_of lit = lit / 2

-- whether a literal is its variable's inverse
unfoldable pub is_inverted : ℕ → Bool
is_inverted lit = eqb (lit % 2) 1

-- In 16 bits, as a netlist's numbers are, doubling wraps past variable 32,767: the variable whose literals
-- are then made. A netlist has none past 4,095.
unfoldable pub wrapped : ℕ → ℕ
wrapped var = var % 32768
