-- Read of a packed file: refused with 1 where the text is over 65,536 bytes, then by its first faulty line or byte run,
-- then with 12 where the buffer is too short; else the numbers stand first in the buffer, which keeps its surplus.
-- Assumes nothing.
use Rattle.std.specs.Prelude.{Result, Ok, Err, cond, not, List, ◌++◌, ℕ, zero, suc, leb, length, drop}
use Rattle.text.specs.declared.Refusal.{Refusal}
use Rattle.aiger_lines.specs.declared.Fault.TheVariants.{WrongShape, OutOfLimits}
use Rattle.aiger_lines.specs.Blocks.{Rows, rows, failed}
use Rattle.packed_read.specs.Files.{read_packed}
use Rattle.packed_read.specs.declared.Cause.{Cause}
use Rattle.packed_read.specs.declared.Cause.TheVariants.{TextTooLong, ShortBuffer, FaultyLine, FaultyRun}

-- the number and line of each cause
unfoldable pub refusal_of : Cause → Refusal
refusal_of TextTooLong = record { number = 1; line = 0 }
refusal_of ShortBuffer = record { number = 12; line = 0 }
refusal_of (FaultyLine WrongShape line) = record { number = 13; line = line }
refusal_of (FaultyLine OutOfLimits line) = record { number = 14; line = line }
refusal_of (FaultyRun WrongShape) = record { number = 18; line = 0 }
refusal_of (FaultyRun OutOfLimits) = record { number = 14; line = 0 }

-- what a read answers, and what it leaves
pub record ReadEnd : Type 0 where
  pub answer : Result ℕ Cause
  pub net : List ℕ

abbrev pub read_end : Result ℕ Cause → List ℕ → ReadEnd
read_end r n = record { answer = r; net = n }

-- the longest text
abbrev pub max_text : ℕ
max_text = 65536

-- a fault with a line is a line's, one without is a byte run's
unfoldable pub read_as : Rows → List ℕ → ReadEnd
read_as (failed e zero) net = read_end (Err (FaultyRun e)) net
read_as (failed e (suc n)) net = read_end (Err (FaultyLine e (suc n))) net
read_as (rows ns free q) net =
    cond (not (leb (length ns) (length net))) (read_end (Err ShortBuffer) net)
    (read_end (Ok (length ns)) (ns ++ drop (length ns) net))

unfoldable pub read_of : List ℕ → List ℕ → ReadEnd
read_of text net =
    cond (not (leb (length text) max_text)) (read_end (Err TextTooLong) net) (read_as (read_packed text) net)
