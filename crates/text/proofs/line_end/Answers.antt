-- `text::line_end` meets its contract: the line's end from here is the line's end. Assumes nothing.
use mathlib.Core.Path.{sym, ◌∙◌}
use native.Mathlib.Omega.{arith}
use Rattle.text.proofs.LineLaws.{end_here, end_later, end_end}
use Rattle.text.proofs.line_end.Goals as goal

pub returns-then-s-k-eq10 : goal.returns-then-s-k-eq10
returns-then-s-k-eq10 c = sym (end_here _ _ c.loop-k-test.true c.if-s-k-eq10.true) ∙ c.loop-k.invariant.1

pub loop-k-preserved : goal.loop-k-preserved
loop-k-preserved c = (omega arith, sym (end_later _ _ c.loop-k-test.true c.if-s-k-eq10.false) ∙ c.loop-k.invariant.1)

pub returns : goal.returns
returns c = omega (arith, end_end _ _ c.loop-k-test.false, c.loop-k.invariant.1)
