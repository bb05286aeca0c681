-- `text::line_at` meets its contract. Assumes nothing.
use mathlib.Core.Path.{sym}
use native.Mathlib.Omega.{arith}
use Rattle.text.proofs.LineLaws.{at_end, at_ended, at_unended}
use Rattle.text.proofs.line_at.Goals as goal

pub returns-then-s-at : goal.returns-then-s-at
returns-then-s-at c = sym (at_end _ _ c.if-s-at.true)

pub returns-then-end-s : goal.returns-then-end-s
returns-then-end-s c = rw c.line_end-end.ensures (sym (at_ended _ _ c.if-s-at.false (omega (arith, c.line_end-end.ensures))))

pub returns-else-end-s : goal.returns-else-end-s
returns-else-end-s c = sym (at_unended _ _ c.if-s-at.false (omega (arith, c.line_end-end.ensures)))
