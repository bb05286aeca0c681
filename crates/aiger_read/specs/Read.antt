-- Read: refused with 1 where the text is over 65,536 bytes, then by its first faulty line, then with 23 where gates wait
-- on each other, then with 12 where the buffer is too short; else the numbers of the netlist, its gates placed and
-- renumbered, stand first in the buffer, which keeps its surplus. Assumes nothing.
use Rattle.std.specs.Prelude.{Result, Ok, Err, cond, not, List, ◌++◌, ℕ, leb, length, drop}
use Rattle.text.specs.declared.Refusal.{Refusal}
use Rattle.gate_order.specs.Placing.{Placing, ordered, waiting, placing_of}
use Rattle.gate_order.specs.Renumbered.{renumbered}
use Rattle.aiger_lines.specs.declared.Fault.TheVariants.{WrongShape, OutOfLimits}
use Rattle.aiger_lines.specs.Blocks.{Rows, rows, failed}
use Rattle.aiger_read.specs.Files.{file_read}
use Rattle.aiger_read.specs.declared.Cause.{Cause}
use Rattle.aiger_read.specs.declared.Cause.TheVariants.{TextTooLong, ShortBuffer, FaultyLine, WaitingGates}

-- the number and line of each cause
unfoldable pub refusal_of : Cause → Refusal
refusal_of TextTooLong = record { number = 1; line = 0 }
refusal_of ShortBuffer = record { number = 12; line = 0 }
refusal_of (FaultyLine WrongShape line) = record { number = 13; line = line }
refusal_of (FaultyLine OutOfLimits line) = record { number = 14; line = line }
refusal_of WaitingGates = record { number = 23; line = 0 }

-- what a read answers, and what it leaves
pub record ReadEnd : Type 0 where
  pub answer : Result ℕ Cause
  pub net : List ℕ

abbrev pub read_end : Result ℕ Cause → List ℕ → ReadEnd
read_end r n = record { answer = r; net = n }

-- the longest text
abbrev pub max_text : ℕ
max_text = 65536

-- of a file's numbers, by the order of its gates
unfoldable pub placed_end : Placing → List ℕ → List ℕ → ReadEnd
placed_end (waiting order) loose net = read_end (Err WaitingGates) net
placed_end (ordered order) loose net =
    cond (not (leb (length loose) (length net))) (read_end (Err ShortBuffer) net)
    (read_end (Ok (length loose)) (renumbered loose order ++ drop (length loose) net))

unfoldable pub read_as : Rows → List ℕ → ReadEnd
read_as (failed e line) net = read_end (Err (FaultyLine e line)) net
read_as (rows loose free q) net = placed_end (placing_of loose) loose net

unfoldable pub read_of : List ℕ → List ℕ → ReadEnd
read_of text net =
    cond (not (leb (length text) max_text)) (read_end (Err TextTooLong) net) (read_as (file_read text) net)
