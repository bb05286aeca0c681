-- `pass_placed` meets its contract. Assumes nothing.
use mathlib.Core.Path.{sym, ◌∙◌}
use native.Mathlib.Omega.{arith}
use borrow.Author.Tests.{not-false}
use borrow.Author.Count.{below_more}
use borrow.Author.Rules.{rules}
use Rattle.aiger_order.proofs.orders.pass_placed.Goals as goal

pub loop-x-init : goal.loop-x-init
loop-x-init c = (search rules, search rules, λ v h l. absurd (omega arith))

pub returns-then-not-is_placed : goal.returns-then-not-is_placed
returns-then-not-is_placed c =
    let i = c.loop-x.invariant in
    record { from = i.0; to = i.1; placed = λ v l h. i.2 v h l }

pub loop-x-preserved : goal.loop-x-preserved
loop-x-preserved c =
    let e = sym c.is_placed.ensures ∙ not-false _ c.if-not-is_placed.false-raw in
    (search rules, search rules, below_more _ c.loop-x.x c.loop-x.invariant.2 (λ h. e))

pub returns : goal.returns
returns c =
    let i = c.loop-x.invariant in
    record { from = omega arith; to = omega arith; placed = λ v l h. i.2 v (omega arith) l }
