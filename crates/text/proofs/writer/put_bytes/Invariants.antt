-- `text::writer::put_bytes` meets its contract: after i turns the first i bytes are stored. Assumes nothing.
use lib.ListN.{take}
use Rattle.text.specs.Writer.{Wrote}
use Rattle.text.proofs.writer.put_bytes.Given as goal

abbrev pub invariant-loop-byte : goal.invariant-loop-byte
invariant-loop-byte l = Wrote l.initial.out l.out l.at l.p (take l.byte-index l.s)
