-- `store_front` meets its contract. Assumes nothing.
use mathlib.Core.Path.{◌∙◌}
use native.Mathlib.Omega.{arith}
use Rattle.text.proofs.WriterLaws.{sets-append}
use Rattle.netlist.specs.Layout.{latch_count}
use Rattle.text.specs.Writer.{joined}
use Rattle.aiger_order.specs.Private.Steps.{header_in, latch_in}
use Rattle.aiger_order.proofs.LimitLaws.{facts}
use Rattle.aiger_order.proofs.stores.store_front.Goals as goal

pub store_header-requires : goal.store_header-requires
store_header-requires c = let o = facts _ c.requires.0 in omega arith

pub returns : goal.returns
returns c =
    let J = joined (latch_in c.args.loose.now c.args.news.now) (latch_count c.args.loose.now) in
    c.store_latches.ensures ∙ rw c.store_header.ensures (sets-append (header_in c.args.loose.now) J c.args.net.now 0)
