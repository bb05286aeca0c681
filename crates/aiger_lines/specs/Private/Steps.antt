-- What the functions promise of a line, of a header and of a pass. Assumes nothing.
use Rattle.std.specs.Prelude.{Result, Ok, Err, Option, Some, None, ◌≡◌, List, [], ◌∷◌, ℕ, ◌+◌, ◌^◌, ◌<◌, ◌≤◌, length, get_or}
use Rattle.std.proofs.lemmas.List.Edits.{sets}
use Rattle.aiger_lines.specs.declared.Line.{Line}
use Rattle.aiger_lines.specs.declared.Literals.{Literals}
use Rattle.aiger_lines.specs.declared.Literals.TheVariants as literals
use Rattle.aiger_lines.specs.declared.Given.{Given}
use Rattle.aiger_lines.specs.declared.Fault.{Fault}
use Rattle.aiger_lines.specs.declared.Fault.TheVariants.{WrongShape, OutOfLimits}
use Rattle.aiger_lines.specs.declared.Head.{Head}
use Rattle.aiger_lines.specs.declared.Cursor.{Cursor}
use Rattle.aiger_lines.specs.Fields.{Fields, wrong, fields}
use Rattle.aiger_lines.specs.Lines.{Row, row, fault}
use Rattle.aiger_lines.specs.Blocks.{Rows, rows, failed}
use Rattle.aiger_lines.specs.Heads.{Heading, heading, misheaded}

-- ---- a line's numbers

-- the numbers and the place after them; past the numbers there are zeros
pub record Holds (l : Line) (vs : List ℕ) (q : ℕ) : Type 0 where
  pub next : l.next ≡ q
  pub values : (k : ℕ) → get_or l.values k 0 ≡ get_or vs k 0

-- a line that holds the numbers, or none where they have another shape
unfoldable pub LineIs : Fields → Option Line → Type 0
LineIs wrong r = r ≡ None
LineIs (fields vs q) r = (l : Line) × (r ≡ Some l) × Holds l vs q

-- ---- what a line gives

unfoldable pub numbers_in : Literals → List ℕ
numbers_in literals.None = []
numbers_in (literals.One a) = a.0 ∷ []
numbers_in (literals.Two a b) = a.0 ∷ b.0 ∷ []

unfoldable pub row_in : Result Given Fault → Row
row_in (Ok g) = row (numbers_in g.literals) g.free g.next
row_in (Err e) = fault e

-- the number of a line's fault
unfoldable pub number_of : Fault → ℕ
number_of WrongShape = 13
number_of OutOfLimits = 14

-- ---- the header

unfoldable pub head_in : Result Head Fault → Heading
head_in (Ok h) = heading h.variables h.inputs h.latches h.outputs h.gates h.next
head_in (Err e) = misheaded e

-- no count wraps
abbrev pub Counted : Head → Type 0
Counted h = (h.inputs + h.latches + h.gates ≤ 4095) × (h.outputs ≤ 2) × (h.variables ≤ 4095)

-- ---- a pass

-- Lines were read, and their numbers stored one by one from `place` on, but those past the buffer's
-- end; or they have a fault.
unfoldable pub Took : Rows → List ℕ → List ℕ → ℕ → Result Cursor (Fault × ℕ) → Type 0
Took (rows ns free q) net after place r =
    (r ≡ Ok (record { free = free; at = q; place = place + length ns })) × (after ≡ sets net place ns)
Took (failed e line) net after place r = (r ≡ Err (e, line)) × (length after ≡ length net)

-- a line by itself, of the number given
unfoldable pub line_rows : Row → ℕ → Rows
line_rows (row ns free q) line = rows ns free q
line_rows (fault e) line = failed e line

-- what a reader of lines answers of each of so many lines is what `at` says of it
abbrev pub Reads : (ℕ → ℕ → ℕ → Result Given Fault → Type 0) → (ℕ → ℕ → ℕ → Row) → ℕ → Type 0
Reads answers at count = (k free p : ℕ) (r : Result Given Fault) → k < count → free < 2 ^ 64 → p < 2 ^ 64 → answers k free p r → row_in r ≡ at k free p

-- the place in the netlist is at most n
unfoldable pub Within : ℕ → Result Cursor (Fault × ℕ) → Type 0
Within n (Ok c) = c.place ≤ n
Within n (Err (e, line)) = Unit {0}
