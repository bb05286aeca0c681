-- `store_gates` meets its contract. Assumes nothing.
use mathlib.Core.Path.{◌≡◌, refl, ap, ◌∙◌}
use native.Mathlib.Omega.{arith}
use lib.ListN.{length}
use lib.Seq.{length-sets}
use Rattle.netlist.specs.Layout.{gate_count}
use Rattle.aiger_order.proofs.StoreLaws.{gates-sized, stored_next, inside, numbered}
use borrow.Author.Rules.{rules}
use Rattle.aiger_order.proofs.stores.store_gates.Goals as goal

pub loop-m-init : goal.loop-m-init
loop-m-init c = (search rules, refl)

pub bounds-order-m : goal.bounds-order-m
bounds-order-m c =
    let g = c.requires.1 in
    let o = c.requires.2.long in
    omega arith

pub store_gate-requires : goal.store_gate-requires
store_gate-requires c =
    let g = c.requires.1 in
    let i = inside _ _ _ c.requires.0 c.requires.2 c.loop-m.m (omega arith) in
    record { loose_value = (c.requires.0, g, numbered _ _ _ c.requires.0 c.requires.2); first_le = (omega (arith, i.0), omega (arith, i.1)) }

pub loop-m-preserved : goal.loop-m-preserved
loop-m-preserved c =
    (search rules, stored_next _ 2 (gates-sized c.args.loose.now c.args.news.now c.args.order.now) c.args.net.now c.args.gates.at c.loop-m.m c.loop-m.invariant.1 refl c.store_gate.ensures)

pub shape_of-net : goal.shape_of-net
shape_of-net c = ap length c.loop-m.invariant.1 ∙ simp length-sets

pub returns : goal.returns
returns c =
    let g = c.requires.1 in
    let e : c.loop-m.m ≡ gate_count c.args.loose.now = omega arith in
    rw e at c.loop-m.invariant.1
