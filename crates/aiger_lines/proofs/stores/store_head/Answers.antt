-- `store_head` meets its contract. Assumes nothing.
use mathlib.Core.Path.{◌∙◌}
use Rattle.aiger_lines.proofs.stores.store_head.Goals as goal

pub returns : goal.returns
returns c =
    let x = c.store.ensures in
    let y = c.store_pair-2.ensures in
    let z = c.store_pair.ensures in
    x ∙ rw (y, z)
