-- Cycles and traces, by the number of inputs alone. A trace is lines of one byte for each input, each
-- ended by LF. Assumes nothing.
use Rattle.std.specs.Prelude.{Bool, cond, ◌&&◌, ◌||◌, List, [], ◌∷◌, ℕ, zero, suc, ◌+◌, ◌/◌, eqb, length, get_or, take, drop}
use Rattle.netlist.specs.Lanes.{each}

-- a byte `0` or `1`
unfoldable pub is_bit : ℕ → Bool
is_bit b = eqb b 48 || eqb b 49

-- one such byte for each of n inputs
unfoldable pub is_cycle : ℕ → List ℕ → Bool
is_cycle n cycle = eqb (length cycle) n && each (length cycle) (λ k. is_bit (get_or cycle k 0))

-- ---- the first wrong line
-- the byte b may stand at place col of a line of n inputs: LF (10) after them, `0` or `1` before
unfoldable pub fits_line : ℕ → ℕ → ℕ → Bool
fits_line n col b = cond (eqb col n) (eqb b 10) (is_bit b)

-- the first wrong line of what is left of a trace, where col bytes of line `line` came before; 0 where
-- there is none. A last line without its LF is wrong.
unfoldable pub fault_from : ℕ → ℕ → ℕ → List ℕ → ℕ
fault_from n line col [] = cond (eqb col 0) 0 line
fault_from n line col (b ∷ bs) =
    cond (fits_line n col b)
    (fault_from n (cond (eqb col n) (line + 1) line) (cond (eqb col n) 0 (col + 1)) bs)
    line

-- lines count from 1
unfoldable pub fault_of : ℕ → List ℕ → ℕ
fault_of n trace = fault_from n 1 0 trace

-- ---- a trace without a wrong line
-- how many lines it has
unfoldable pub line_count : ℕ → List ℕ → ℕ
line_count n trace = length trace / (n + 1)

-- the cycles of its first k lines
unfoldable pub cycles_from : ℕ → ℕ → List ℕ → List (List ℕ)
cycles_from n zero s = []
cycles_from n (suc k) s = take n s ∷ cycles_from n k (drop (n + 1) s)

-- its cycles
unfoldable pub cycles_of : ℕ → List ℕ → List (List ℕ)
cycles_of n trace = cycles_from n (line_count n trace) trace
