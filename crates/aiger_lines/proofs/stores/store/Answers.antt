-- `store` meets its contract. Assumes nothing.
use mathlib.Core.Path.{sym}
use lib.Seq.{set_out}
use Rattle.aiger_lines.proofs.stores.store.Goals as goal

pub returns-else-at-net : goal.returns-else-at-net
returns-else-at-net c = sym (set_out _ _ _ c.if-at-net.false)
