-- What the private functions count and write. Assumes nothing.
use Rattle.std.specs.Prelude.{Option, Some, None, cond, List, [], ◌++◌, ℕ, ◌*◌, ◌%◌, eqb, length}
use Rattle.text.specs.Quoted.{bytes}
use Rattle.trace.specs.Verdicts.{all_bits}
use Rattle.session_text.specs.Fields.{right}
use Rattle.session_text.specs.Pages.{rejected_of}
use Rattle.session_text.specs.Claims.{rest_blank}

-- the rejected cycles are counted where no byte is above 1
unfoldable pub count_of : List ℕ → Option ℕ
count_of verdicts = cond (all_bits verdicts) (Some (length (rejected_of verdicts))) None

-- a rejected cycle, where so many stand before it: the tenth ends its line
unfoldable pub cell_text : ℕ → ℕ → List ℕ
cell_text before cycle = right 8 cycle ++ cond (eqb (before % 10) 9) (bytes "\n") []

-- and of a cycle with this verdict byte
unfoldable pub cycle_text : ℕ → ℕ → ℕ → List ℕ
cycle_text before verdict cycle = cond (eqb verdict 1) (cell_text before cycle) []

-- what ends the line after the last of them
unfoldable pub cells_end : ℕ → List ℕ
cells_end cells = cond (eqb (cells % 10) 0) [] (rest_blank (8 * (cells % 10)))
