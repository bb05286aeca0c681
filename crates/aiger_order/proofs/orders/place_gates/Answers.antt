-- `place_gates` meets its contract. Assumes nothing.
use mathlib.Core.Path.{◌≡◌, refl, ap}
use Prim.Native.Nat.{ℕ, ◌+◌, ◌<◌}
use native.Mathlib.Omega.{arith}
use Rattle.netlist.specs.Layout.{gate_count}
use Rattle.gate_order.specs.Loose.{first_gate}
use Rattle.aiger_order.specs.Private.Steps.{or_end}
use Rattle.aiger_order.proofs.OrderLaws.{going_start, going_inside, going_next, going_stuck, going_done}
use borrow.Author.Rules.{rules}
use Rattle.aiger_order.proofs.orders.place_gates.Goals as goal

pub loop-n-init : goal.loop-n-init
loop-n-init c =
    let e = c.requires.loose_value.1.first in
    (rw e (going_start _ c.requires.loose_value.0 _ _ (rw e at c.requires.loose_value.2) c.requires.order_len), refl, refl)

pub pass_placed-low-requires : goal.pass_placed-low-requires
pass_placed-low-requires c =
    let end_is' : c.args.gates.first.0 + c.args.gates.count ≡ first_gate c.args.loose.now + gate_count c.args.loose.now = let g = c.requires.loose_value.1 in omega arith in let g = c.loop-n.invariant.0 in
    let h = g.stands.long in
    let e = end_is' in
    (omega (arith, g.to), omega arith)

pub choose-requires : goal.choose-requires
choose-requires c =
    let g = c.loop-n.invariant.0 in
    let p = c.pass_placed-low.ensures in
    record { loose_value = (c.requires.loose_value.0, c.requires.loose_value.1, g.stands.long); first_le_low = (omega (arith, g.from, c.requires.loose_value.1.first, p.from), p.to) }

pub returns-in_default : goal.returns-in_default
unfolding or_end
returns-in_default c =
    let more' : c.loop-n.n < gate_count c.args.loose.now = let g = c.requires.loose_value.1 in omega arith in let end_is' : c.args.gates.first.0 + c.args.gates.count ≡ first_gate c.args.loose.now + gate_count c.args.loose.now = let g = c.requires.loose_value.1 in omega arith in going_stuck _ c.requires.loose_value.0 c.loop-n.invariant.0 (more') (end_is') c.pass_placed-low.ensures (rw c.in_default.is at c.choose.ensures.value) _ _ refl

pub bounds-order-n : goal.bounds-order-n
bounds-order-n c =
    let end_is' : c.args.gates.first.0 + c.args.gates.count ≡ first_gate c.args.loose.now + gate_count c.args.loose.now = let g = c.requires.loose_value.1 in omega arith in let g = c.loop-n.invariant.0 in
    let e = end_is' in
    omega (arith, g.long, g.within)

pub bounds-news-chosen : goal.bounds-news-chosen
unfolding or_end
bounds-news-chosen c =
    let more' : c.loop-n.n < gate_count c.args.loose.now = let g = c.requires.loose_value.1 in omega arith in let end_is' : c.args.gates.first.0 + c.args.gates.count ≡ first_gate c.args.loose.now + gate_count c.args.loose.now = let g = c.requires.loose_value.1 in omega arith in going_inside _ c.requires.loose_value.0 c.loop-n.invariant.0 (more') (end_is') c.pass_placed-low.ensures (rw c.in-Some.is at c.choose.ensures.value) (λ e. let b = rw c.in-Some.is at c.choose.ensures.below in absurd (omega (arith, b, e)))

pub loop-n-preserved : goal.loop-n-preserved
unfolding or_end
loop-n-preserved c =
    let more' : c.loop-n.n < gate_count c.args.loose.now = let g = c.requires.loose_value.1 in omega arith in let end_is' : c.args.gates.first.0 + c.args.gates.count ≡ first_gate c.args.loose.now + gate_count c.args.loose.now = let g = c.requires.loose_value.1 in omega arith in let g = c.requires.loose_value.1 in
    (going_next _ c.requires.loose_value.0 c.loop-n.invariant.0 (more') (end_is') c.pass_placed-low.ensures (rw c.in-Some.is at c.choose.ensures.value) (λ e. let b = rw c.in-Some.is at c.choose.ensures.below in absurd (omega (arith, b, e))) (ap (λ (f : ℕ). f + c.loop-n.n) g.first), search rules, search rules)

pub shape_of-news : goal.shape_of-news
shape_of-news c = c.loop-n.invariant.1

pub shape_of-order : goal.shape_of-order
shape_of-order c = c.loop-n.invariant.2

pub returns : goal.returns
returns c =
    going_done _ c.requires.loose_value.0 c.loop-n.invariant.0 (omega (arith, c.requires.loose_value.1.count))
