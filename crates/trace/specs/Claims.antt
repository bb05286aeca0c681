-- What the contracts of fault and of the simulator's run claim of a trace: it is its cycles, each a line
-- that LF ends, or the line told is the first wrong one. Assumes nothing.
use Rattle.std.specs.Prelude.{◌≡◌, true, List, [], ◌∷◌, ◌++◌, ℕ, suc, ◌<◌, length}
use Rattle.trace.specs.Traces.{is_cycle, fault_of, cycles_of}

-- each of these is a cycle of n inputs
unfoldable pub Cycles : ℕ → List (List ℕ) → Type 0
Cycles n [] = Unit
Cycles n (c ∷ cs) = (is_cycle n c ≡ true) × Cycles n cs

-- the lines of cycles: each ended by LF
unfoldable pub lines_of : List (List ℕ) → List ℕ
lines_of [] = []
lines_of (c ∷ cs) = c ++ (10 ∷ lines_of cs)

-- after k lines that are cycles something is left that does not begin with a cycle and its LF
pub record FirstWrong (n k : ℕ) (trace : List ℕ) : Type 0 where
  pub before : List (List ℕ)
  pub rest : List ℕ
  pub apart : trace ≡ lines_of before ++ rest
  pub right : Cycles n before
  pub count : length before ≡ k
  pub some : 0 < length rest
  pub wrong : (c more : List ℕ) → is_cycle n c ≡ true → rest ≡ c ++ (10 ∷ more) → ⊥

-- THE LINES OF A TRACE for n inputs
pub record TraceMeans (n : ℕ) (trace : List ℕ) : Type 0 where
  -- where no line is told, the trace is the lines of its cycles
  pub whole : fault_of n trace ≡ 0 → (trace ≡ lines_of (cycles_of n trace)) × Cycles n (cycles_of n trace)
  -- the lines of any cycles are such a trace, and have just these cycles
  pub lines : (cs : List (List ℕ)) → Cycles n cs → trace ≡ lines_of cs → (fault_of n trace ≡ 0) × (cycles_of n trace ≡ cs)
  -- a line that is told, from 1, is the first wrong one
  pub first : (k : ℕ) → fault_of n trace ≡ suc k → FirstWrong n k trace
