-- `new_literal` meets its contract. Assumes nothing.
use mathlib.Core.Path.{◌∙◌}
use Prim.Native.Nat.{◌<◌}
use lib.ListN.{get_or}
use Rattle.netlist.proofs.LiteralLaws.{made}
use Rattle.aiger_order.specs.Private.Steps.{literal_in}
use Rattle.aiger_order.proofs.stores.new_literal.Goals as goal

pub returns : goal.returns
unfolding literal_in
returns c =
    let v = c.variable-old.ensures in
    let h : get_or c.args.news.now c.variable-old.result.0 0 < 32768 = rw v c.requires.1 in
    made _ _ h c.literal.ensures ∙ rw (v, c.is_inverted.ensures)
