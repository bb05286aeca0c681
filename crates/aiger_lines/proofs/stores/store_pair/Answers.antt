-- `store_pair` meets its contract: where the first number falls past the end, so does the second. Assumes nothing.
use mathlib.Core.Path.{sym, ◌∙◌}
use native.Mathlib.Numerals.{add-one}
use native.Mathlib.Omega.{arith}
use lib.Seq.{set_out}
use Rattle.aiger_lines.proofs.stores.store_pair.Goals as goal

pub returns-then-at-net : goal.returns-then-at-net
returns-then-at-net c =
    let b = c.store-then-at-net.ensures in
    let a = c.store.ensures in
    b ∙ rw (a, add-one)

pub returns-else-at-net : goal.returns-else-at-net
returns-else-at-net c =
    let a = c.store.ensures in
    rw (← a) (sym (set_out _ _ _ (omega arith)))
