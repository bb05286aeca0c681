-- What the line of a latch and that of an output say: the numbers of the netlist that they give, or their
-- fault. A wrong shape is 13, a right shape that breaks order or limits 14. Assumes nothing.
use Rattle.std.specs.Prelude.{cond, ◌&&◌, ◌||◌, List, [], ◌∷◌, ℕ, ◌+◌, eqb, leb, ltb, get_or}
use Rattle.aiger_lines.specs.declared.Fault.{Fault}
use Rattle.aiger_lines.specs.declared.Fault.TheVariants.{WrongShape, OutOfLimits}
use Rattle.aiger_lines.specs.Fields.{Fields, wrong, fields, fields_of}

-- a line that was read: its numbers of the netlist, how many latches are uninitialised so far, and the
-- place after it
pub data Row : Type 0 where
  row : List ℕ → ℕ → ℕ → Row
  fault : Fault → Row

-- the shape first, then what the numbers say
unfoldable pub judged : Fields → (List ℕ → ℕ → Row) → Row
judged wrong f = fault WrongShape
judged (fields vs q) f = f vs q

-- a latch of the literal lit: next at most the largest literal, reset 0, 1 or, for six latches at most, the
-- latch's own literal; `free` latches before it are uninitialised
unfoldable pub latch_says : (last lit free next reset q : ℕ) → Row
latch_says last lit free next reset q =
    cond (leb next last && (leb reset 1 || (eqb reset lit && ltb free 6)))
    (row (next ∷ reset ∷ []) (free + cond (leb reset 1) 0 1) q)
    (fault OutOfLimits)

-- an output is at most the largest literal
unfoldable pub output_at : List ℕ → ℕ → ℕ → ℕ → Row
output_at s last free p =
    judged (fields_of s 0 p) (λ vs q. cond (leb (get_or vs 0 0) last) (row (get_or vs 0 0 ∷ []) free q) (fault OutOfLimits))
