-- Read of an AIGER file in either form: the header's first word tells which. `aig` and a blank is the packed form;
-- whatever else goes to the reader of the text form. Assumes nothing.
use Rattle.std.specs.Prelude.{Result, Ok, Err, cond, List, ℕ}
use Rattle.text.specs.Quoted.{byte}
use Rattle.text.specs.declared.Refusal.{Refusal}
use Rattle.aiger_lines.specs.declared.Fault.TheVariants.{WrongShape, OutOfLimits}
use Rattle.aiger_lines.specs.Heads.{has_tag}
use Rattle.aiger_read.specs.declared.Cause.{Cause as TextCause}
use Rattle.aiger_read.specs.declared.Cause.TheVariants as text
use Rattle.aiger_read.specs.Read.{ReadEnd as TextEnd, read_of as text_read_of}
use Rattle.packed_read.specs.declared.Cause.{Cause as PackedCause}
use Rattle.packed_read.specs.declared.Cause.TheVariants as packed
use Rattle.packed_read.specs.Read.{ReadEnd as PackedEnd, read_of as packed_read_of}
use Rattle.aiger_file.specs.declared.Cause.{Cause}
use Rattle.aiger_file.specs.declared.Cause.TheVariants.{TextTooLong, ShortBuffer, FaultyLine, FaultyRun, WaitingGates}

-- the number and line of each cause
unfoldable pub refusal_of : Cause → Refusal
refusal_of TextTooLong = record { number = 1; line = 0 }
refusal_of ShortBuffer = record { number = 12; line = 0 }
refusal_of (FaultyLine WrongShape line) = record { number = 13; line = line }
refusal_of (FaultyLine OutOfLimits line) = record { number = 14; line = line }
refusal_of (FaultyRun WrongShape) = record { number = 18; line = 0 }
refusal_of (FaultyRun OutOfLimits) = record { number = 14; line = 0 }
refusal_of WaitingGates = record { number = 23; line = 0 }

-- the causes of the text form, and those of the packed form, are causes of either
unfoldable pub text_cause : TextCause → Cause
text_cause text.TextTooLong = TextTooLong
text_cause text.ShortBuffer = ShortBuffer
text_cause (text.FaultyLine fault line) = FaultyLine fault line
text_cause text.WaitingGates = WaitingGates

unfoldable pub packed_cause : PackedCause → Cause
packed_cause packed.TextTooLong = TextTooLong
packed_cause packed.ShortBuffer = ShortBuffer
packed_cause (packed.FaultyLine fault line) = FaultyLine fault line
packed_cause (packed.FaultyRun fault) = FaultyRun fault

-- and so are the answers
unfoldable pub text_outcome : Result ℕ TextCause → Result ℕ Cause
text_outcome (Ok n) = Ok n
text_outcome (Err cause) = Err (text_cause cause)

unfoldable pub packed_outcome : Result ℕ PackedCause → Result ℕ Cause
packed_outcome (Ok n) = Ok n
packed_outcome (Err cause) = Err (packed_cause cause)

-- what a read answers, and what it leaves
pub record ReadEnd : Type 0 where
  pub answer : Result ℕ Cause
  pub net : List ℕ

abbrev pub read_end : Result ℕ Cause → List ℕ → ReadEnd
read_end r n = record { answer = r; net = n }

unfoldable pub text_read_end : TextEnd → ReadEnd
text_read_end e = read_end (text_outcome e.answer) e.net

unfoldable pub packed_read_end : PackedEnd → ReadEnd
packed_read_end e = read_end (packed_outcome e.answer) e.net

unfoldable pub read_of : List ℕ → List ℕ → ReadEnd
read_of text net = cond (has_tag (byte "i") text) (packed_read_end (packed_read_of text net)) (text_read_end (text_read_of text net))
