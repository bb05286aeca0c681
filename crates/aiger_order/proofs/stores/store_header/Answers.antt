-- `store_header` meets its contract. Assumes nothing.
use mathlib.Core.Path.{◌∙◌}
use Rattle.aiger_order.proofs.stores.store_header.Goals as goal

pub returns : goal.returns
returns c =
    let x = c.store.ensures in
    let z = c.store_pair.ensures in
    x ∙ rw (c.store_pair-2.ensures, z)
