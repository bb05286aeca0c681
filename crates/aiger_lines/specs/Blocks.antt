-- Lines one after the other: their numbers, or the first fault and its line. Lines count from 1; a missing
-- line has the number it would have had. Assumes nothing.
use Rattle.std.specs.Prelude.{cond, List, [], ◌++◌, ℕ, zero, suc, ◌+◌, eqb, length}
use Rattle.aiger_lines.specs.declared.Fault.{Fault}
use Rattle.aiger_lines.specs.declared.Fault.TheVariants.{WrongShape}
use Rattle.aiger_lines.specs.Lines.{Row, row, fault}

-- lines that were read: their numbers, the uninitialised latches so far and the place after them; or the
-- first fault and its line
pub data Rows : Type 0 where
  rows : List ℕ → ℕ → ℕ → Rows
  failed : Fault → ℕ → Rows

-- numbers in front of those to come
unfoldable pub behind : List ℕ → Rows → Rows
behind ns (rows ms free q) = rows (ns ++ ms) free q
behind ns (failed e line) = failed e line

-- lines, and then what is read from the place after them
unfoldable pub and_then : Rows → (ℕ → ℕ → Rows) → Rows
and_then (rows ns free q) next = behind ns (next free q)
and_then (failed e line) next = failed e line

-- what is made of a line that was read, or of its fault
unfoldable pub on_row : {A : Type 0} → Row → (List ℕ → ℕ → ℕ → A) → (Fault → A) → A
on_row (row ns free q) f g = f ns free q
on_row (fault e) f g = g e

-- count lines from p on, of which the first has the number `line`; `at k` reads the line of index k, and
-- the first has the index `from`
unfoldable pub rows_of : (ℕ → ℕ → ℕ → Row) → ℕ → ℕ → ℕ → ℕ → ℕ → Rows
rows_of at zero from line free p = rows [] free p
rows_of at (suc count) from line free p =
    on_row (at from free p) (λ ns f q. behind ns (rows_of at count (from + 1) (line + 1) f q)) (λ e. failed e line)

-- nothing stands after the last line
unfoldable pub end_of : List ℕ → ℕ → ℕ → ℕ → Rows
end_of s line free p = cond (eqb p (length s)) (rows [] free p) (failed WrongShape line)
