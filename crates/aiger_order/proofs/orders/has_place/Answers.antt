-- `has_place` meets its contract. Assumes nothing.
use mathlib.Core.Path.{◌∙◌, ap}
use Prim.Native.Nat.{ℕ}
use Rattle.aiger_order.specs.Private.Steps.{placed_in}
use Rattle.aiger_order.proofs.orders.has_place.Goals as goal

pub returns : goal.returns
returns c = c.is_placed.ensures ∙ ap (λ (v : ℕ). placed_in c.args.news.now v) c.variable.ensures
