-- `text::writer::put_byte` meets its contract. Assumes nothing.
use mathlib.Core.Path.{sym}
use native.Mathlib.Omega.{arith}
use lib.Seq.{set_out}
use Rattle.text.proofs.writer.put_byte.Goals as goal

pub returns-then-at-lt-TOP : goal.returns-then-at-lt-TOP
returns-then-at-lt-TOP c = record { small = omega arith; place = omega arith; bytes = sym (set_out _ _ _ c.if-at-out.false) }

pub returns-else-at-lt-TOP : goal.returns-else-at-lt-TOP
returns-else-at-lt-TOP c = record { small = omega arith; place = omega arith; bytes = sym (set_out _ _ _ c.if-at-out.false) }
