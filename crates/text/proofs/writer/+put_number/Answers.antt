-- `text::writer::put_number` meets its contract; the number falls. Assumes nothing.
use native.Mathlib.Omega.{arith}
use Rattle.text.proofs.NumberLaws.{digits-small, digits_more}
use Rattle.text.proofs.WriterLaws.{then}
use Rattle.text.proofs.writer.+put_number.Goals as goal

pub returns-then-n-lt10 : goal.returns-then-n-lt10
returns-then-n-lt10 t c = rw (digits-small c.args.n (omega arith)) c.put_byte.ensures

pub returns-else-n-lt10 : goal.returns-else-n-lt10
returns-else-n-lt10 t c = rw (digits_more _ c.if-n-lt10.false) (then c.put_number-next.ensures c.put_byte-else-n-lt10.ensures)
