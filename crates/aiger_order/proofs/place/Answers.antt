-- `place` meets its contract. Assumes nothing.
use mathlib.Core.Path.{refl, sym, ◌∙◌}
use borrow.Author.Tests.{not-true, not-false}
use lib.ListN.{length-replicate}
use Prim.Native.Nat.{ℕ}
use Rattle.aiger_order.proofs.ClaimLaws.{place-means}
use Rattle.aiger_order.proofs.PlaceLaws.{not-loose, stuck, found, placed}
use Rattle.aiger_order.proofs.place.Goals as goal

pub returns-then-not-is_loose : goal.returns-then-not-is_loose
returns-then-not-is_loose c = record { net_after = not-loose _ _ (sym c.is_loose.ensures ∙ not-true _ c.if-not-is_loose.true-raw); exact = place-means }

pub find_order-requires : goal.find_order-requires
find_order-requires c = ((sym c.is_loose.ensures ∙ not-false _ c.if-not-is_loose.false-raw), refl, length-replicate {A = ℕ} 4096 0)

pub returns-then-not-find_order : goal.returns-then-not-find_order
returns-then-not-find_order c = record { net_after = stuck _ _ _ c.find_order.ensures _ ((sym c.is_loose.ensures ∙ not-false _ c.if-not-is_loose.false-raw)) (not-true _ c.if-not-find_order.true-raw); exact = place-means }

pub store_netlist-requires : goal.store_netlist-requires
store_netlist-requires c =
    ((sym c.is_loose.ensures ∙ not-false _ c.if-not-is_loose.false-raw), found _ _ _ c.find_order.ensures (not-false _ c.if-not-find_order.false-raw))

pub returns : goal.returns
returns c = record { net_after = placed _ _ _ c.find_order.ensures _ ((sym c.is_loose.ensures ∙ not-false _ c.if-not-is_loose.false-raw)) (not-false _ c.if-not-find_order.false-raw) c.store_netlist.ensures; exact = place-means }
