-- `graph::pieces::end_at` meets its contract: the end from here is the end. Assumes nothing.
use mathlib.Core.Path.{◌≡◌, sym, ◌∙◌}
use native.Mathlib.Omega.{arith}
use lib.ListN.{length}
use Rattle.graph.proofs.PieceLaws.{end_here, end_later, end_end}
use Rattle.graph.proofs.pieces.end_at.Goals as goal

pub returns-then-s-i : goal.returns-then-s-i
returns-then-s-i c = (sym (end_here _ _ _ c.loop-i-test.true c.if-s-i.true) ∙ c.loop-i.invariant, omega arith, omega arith)

pub loop-i-preserved : goal.loop-i-preserved
loop-i-preserved c = sym (end_later _ _ _ c.loop-i-test.true c.if-s-i.false) ∙ c.loop-i.invariant

pub returns : goal.returns
returns c =
    let e : length c.args.s.now ≡ c.loop-i.i = omega (arith, c.loop-i.auto.i-end c.requires) in
    (e ∙ sym (end_end _ _ _ c.loop-i-test.false) ∙ c.loop-i.invariant, omega arith, omega arith)
