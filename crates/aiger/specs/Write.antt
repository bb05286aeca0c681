-- Write: refused with 16 where the numbers are no netlist, then with 12 where the buffer is too short;
-- else the file stands first in the buffer, which keeps its surplus. Assumes nothing.
use Rattle.std.specs.Prelude.{Result, Ok, Err, cond, not, List, ◌++◌, ℕ, leb, length, drop}
use Rattle.text.specs.declared.Refusal.{Refusal}
use Rattle.netlist.specs.Valid.{is_netlist}
use Rattle.aiger.specs.Format.{file_of}
use Rattle.aiger.specs.declared.Cause.{Cause}
use Rattle.aiger.specs.declared.Cause.TheVariants.{ShortBuffer, NotNetlist}

-- the number and line of each cause
unfoldable pub refusal_of : Cause → Refusal
refusal_of ShortBuffer = record { number = 12; line = 0 }
refusal_of NotNetlist = record { number = 16; line = 0 }

-- what a write answers, and what it leaves
pub record WriteEnd : Type 0 where
  pub answer : Result ℕ Cause
  pub text : List ℕ

abbrev pub write_end : Result ℕ Cause → List ℕ → WriteEnd
write_end r t = record { answer = r; text = t }

-- of a file, the numbers that it was made of, and the buffer
unfoldable pub write_as : List ℕ → List ℕ → List ℕ → WriteEnd
write_as file net text =
    cond (not (is_netlist net)) (write_end (Err NotNetlist) text)
    (cond (not (leb (length file) (length text))) (write_end (Err ShortBuffer) text)
    (write_end (Ok (length file)) (file ++ drop (length file) text)))

unfoldable pub write_of : List ℕ → List ℕ → WriteEnd
write_of net text = write_as (file_of net) net text
