-- The lines of an AIGER file in the ASCII format. Each takes the literals that it names, so that other
-- orders and forms can share them. Assumes nothing.
use Rattle.std.specs.Prelude.{Bool, not, cond, ◌&&◌, List, [], ◌∷◌, ◌++◌, ℕ, eqb}
use Rattle.text.specs.Quoted.{bytes}
use Rattle.text.specs.Numbers.{digits}

-- numbers in decimal, parted by single blanks, and an LF; a line has one number at least
unfoldable pub line : ℕ → List ℕ → List ℕ
line n [] = digits n ++ (10 ∷ [])
line n (m ∷ ms) = digits n ++ (32 ∷ line m ms)

-- `aag M I L O A`
unfoldable pub header_row : ℕ → ℕ → ℕ → ℕ → ℕ → List ℕ
header_row m i l o a = bytes "aag " ++ line m (i ∷ l ∷ o ∷ a ∷ [])

-- an input, or an output: its literal
unfoldable pub literal_row : ℕ → List ℕ
literal_row lit = line lit []

-- a latch: its literal, the next literal, and the reset as third number where it is not 0; the reset 0
-- stands there too where it is explicit
unfoldable pub latch_row : Bool → ℕ → ℕ → ℕ → List ℕ
latch_row explicit lit next reset =
    cond (eqb reset 0 && not explicit) (line lit (next ∷ [])) (line lit (next ∷ reset ∷ []))

-- a gate: its literal and its operands
unfoldable pub gate_row : ℕ → ℕ → ℕ → List ℕ
gate_row lit r0 r1 = line lit (r0 ∷ r1 ∷ [])
