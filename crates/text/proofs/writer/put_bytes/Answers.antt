-- `text::writer::put_bytes` meets its contract: after i turns the first i bytes are stored. Assumes nothing.
use Prim.Native.Nat.{ℕ}
use native.Mathlib.Numerals.{add-one}
use lib.Seq.{take-suc, take_all}
use Rattle.text.proofs.WriterLaws.{then}
use Rattle.text.proofs.writer.put_bytes.Goals as goal

pub loop-byte-preserved : goal.loop-byte-preserved
loop-byte-preserved c = rw (add-one, take-suc {A = ℕ} _ _ 0 c.loop-byte-test.true) (then c.loop-byte.invariant c.put_byte-p.ensures)

pub returns : goal.returns
returns c = rw (take_all _ _ c.loop-byte-test.false) at c.loop-byte.invariant
