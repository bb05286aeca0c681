-- The lines of a page: fields parted by tabs, each line ended by LF. Assumes nothing.
use Rattle.std.specs.Prelude.{cond, List, [], ◌∷◌, ◌++◌, ℕ, ◌+◌, eqb, length, get_or}
use Rattle.text.specs.Quoted.{byte, bytes}
use Rattle.text.specs.declared.Refusal.{Refusal}
use Rattle.text.specs.Numbers.{digits}
use Rattle.text.specs.Writer.{joined}
use Rattle.simulator.specs.declared.outcome.Verdict.{Verdict}
use Rattle.simulator.specs.declared.outcome.Verdict.TheVariants.{Accepted, Rejected}

-- a tab and a number
unfoldable pub field : ℕ → List ℕ
field n = byte "\t" ∷ digits n

-- `refused`, number, line
unfoldable pub refused_line : Refusal → List ℕ
refused_line r = bytes "refused" ++ (field r.number ++ (field r.line ++ bytes "\n"))

-- `R`, cycle
unfoldable pub rejected_line : ℕ → List ℕ
rejected_line cycle = bytes "R" ++ (field cycle ++ bytes "\n")

-- a tab and the word of a verdict, with the line's LF: `accepted`, `rejected`
unfoldable pub verdict_field : Verdict → List ℕ
verdict_field Accepted = bytes "\taccepted\n"
verdict_field Rejected = bytes "\trejected\n"

-- `sum`, cycles, rejected, verdict
unfoldable pub sum_line : ℕ → ℕ → Verdict → List ℕ
sum_line cycles rejected verdict = bytes "sum" ++ (field cycles ++ (field rejected ++ verdict_field verdict))

-- the line of cycle k, from 0, where its verdict byte is 1; cycles are printed from 1
unfoldable pub cycle_line : List ℕ → ℕ → List ℕ
cycle_line verdicts k = cond (eqb (get_or verdicts k 0) 1) (rejected_line (k + 1)) []

-- a line for each rejected cycle, by the verdict bytes, then the sum
unfoldable pub report : List ℕ → ℕ → ℕ → Verdict → List ℕ
report verdicts cycles rejected verdict = joined (cycle_line verdicts) (length verdicts) ++ sum_line cycles rejected verdict
