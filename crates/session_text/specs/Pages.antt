-- The session page of a graph name and the verdict bytes of one run (document 02, No. 9). Assumes nothing.
use Rattle.std.specs.Prelude.{Result, Ok, Err, cond, List, [], ◌∷◌, ◌++◌, ℕ, suc, ◌+◌, ◌*◌, ◌/◌, eqb, ltb, length, get_or}
use Rattle.rate.specs.declared.Rate.{Rate}
use Rattle.rate.specs.declared.Cause.{Cause}
use Rattle.text.specs.Quoted.{bytes}
use Rattle.text.specs.Writer.{joined}
use Rattle.rate.specs.Rates.{rate_of}
use Rattle.session_text.specs.Fields.{blanks, left, right, row}

-- the rejected cycles, rising, where the first byte is that of cycle k
unfoldable pub rejected_from : ℕ → List ℕ → List ℕ
rejected_from k [] = []
rejected_from k (b ∷ verdicts) = cond (eqb b 1) (k ∷ rejected_from (suc k) verdicts) (rejected_from (suc k) verdicts)

-- "cycles counted from 1"
abbrev pub rejected_of : List ℕ → List ℕ
rejected_of verdicts = rejected_from 1 verdicts

-- "a title line with graph name (24 bytes, left) and cycles (10, right)"
unfoldable pub title : List ℕ → ℕ → List ℕ
title name cycles = row (left 24 name ++ right 10 cycles)

-- "each in 8 bytes, right"; a place after the last of them is blank
unfoldable pub cell : List ℕ → ℕ → List ℕ
cell rejected j = cond (ltb j (length rejected)) (right 8 (get_or rejected j 0)) (blanks 8)

-- "ten rejected cycles a line": line i, from 0
unfoldable pub cell_line : List ℕ → ℕ → List ℕ
cell_line rejected i = joined (λ j. cell rejected (10 * i + j)) 10 ++ bytes "\n"

-- how many such lines there are: the last may be filled in part
unfoldable pub cell_lines : ℕ → ℕ
cell_lines rejected = (rejected + 9) / 10

-- "whole part (7) and remainder (10), right", as No. 8 has them; "with no cycle", which has no rate, they "are blank"
unfoldable pub rate_fields : Result Rate Cause → List ℕ
rate_fields (Ok rate) = right 7 rate.whole ++ right 10 rate.remainder
rate_fields (Err cause) = blanks 17

-- "a last line with rejected (10)", and these; a rate does not look at the third number
unfoldable pub last_line : ℕ → ℕ → List ℕ
last_line cycles rejected = row (right 10 rejected ++ rate_fields (rate_of (record { cycles = cycles; rejected = rejected; checked = 0 })))

unfoldable pub session_page : List ℕ → List ℕ → List ℕ
session_page name verdicts =
    let rejected = rejected_of verdicts in
    title name (length verdicts)
    ++ (joined (cell_line rejected) (cell_lines (length rejected)) ++ last_line (length verdicts) (length rejected))
