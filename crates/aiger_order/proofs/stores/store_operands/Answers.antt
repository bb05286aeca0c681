-- `store_operands` meets its contract. Assumes nothing.
use mathlib.Core.Path.{◌∙◌}
use borrow.Author.Tests.{lt-ltb, le-ltb}
use Rattle.gate_order.specs.Renumbered.{larger_first}
use Rattle.aiger_order.proofs.stores.store_operands.Goals as goal

pub returns-then-a-b : goal.returns-then-a-b
unfolding larger_first
returns-then-a-b c =
    c.store_pair.ensures ∙ rw (lt-ltb _ _ c.if-a-b.true)

pub returns-else-a-b : goal.returns-else-a-b
unfolding larger_first
returns-else-a-b c =
    c.store_pair-else-a-b.ensures ∙ rw (le-ltb _ _ c.if-a-b.false)
