-- `choose` meets its contract. Assumes nothing.
use mathlib.Core.Path.{refl, sym, ◌∙◌}
use Rattle.aiger_order.specs.Private.Steps.{or_end}
use Rattle.aiger_order.proofs.NewsLaws.{lowest-here, lowest-next, lowest_end}
use borrow.Author.Rules.{rules}
use Rattle.aiger_order.proofs.orders.choose.Goals as goal

pub loop-x-init : goal.loop-x-init
loop-x-init c = (search rules, search rules, refl)

pub returns-then-is_ready : goal.returns-then-is_ready
unfolding or_end
returns-then-is_ready c =
    let e = sym c.is_ready.ensures ∙ c.if-is_ready.true in
    record { value = sym (lowest-here _ _ _ c.loop-x-test.true e) ∙ c.loop-x.invariant.2; below = c.loop-x-test.true }

pub loop-x-preserved : goal.loop-x-preserved
loop-x-preserved c =
    let e = sym c.is_ready.ensures ∙ c.if-is_ready.false in
    (search rules, search rules, sym (lowest-next _ _ _ c.loop-x-test.true e) ∙ c.loop-x.invariant.2)

pub returns : goal.returns
unfolding or_end
returns c = record { value = lowest_end _ _ _ c.loop-x.invariant.1 c.loop-x-test.false ∙ c.loop-x.invariant.2; below = tt }
