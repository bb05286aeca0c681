-- `is_placed` meets its contract. Assumes nothing.
use Rattle.aiger_order.specs.Private.Steps.{placed_in}
use borrow.Author.Rules.{rules}
use Rattle.aiger_order.proofs.orders.is_placed.Goals as goal

pub returns : goal.returns
unfolding placed_in
returns c = search rules
