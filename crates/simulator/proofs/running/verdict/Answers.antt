-- `simulator::running::verdict` meets its contract: every byte passed is 0. Assumes nothing.
use mathlib.Core.Path.{◌≡◌, sym}
use native.Mathlib.Omega.{arith}
use lib.ListN.{get_or}
use borrow.Author.Count.{below_more}
use Rattle.simulator.proofs.VerdictLaws.{verdict-any, verdict-none}
use Rattle.simulator.proofs.running.verdict.Goals as goal

pub loop-b-init : goal.loop-b-init
loop-b-init c = λ j l. absurd (omega arith)

pub returns-then-b-ne0 : goal.returns-then-b-ne0
returns-then-b-ne0 c = sym (verdict-any c.args.verdicts.now c.loop-b.b-index c.loop-b-test.true c.if-b-ne0.true)

pub loop-b-preserved : goal.loop-b-preserved
loop-b-preserved c = below_more (λ j. get_or c.args.verdicts.now j 0 ≡ 0) c.loop-b.b-index c.loop-b.invariant c.if-b-ne0.false

pub returns : goal.returns
returns c = sym (verdict-none c.args.verdicts.now (λ j b. c.loop-b.invariant j (omega arith)))
