-- `store_latches` meets its contract. Assumes nothing.
use mathlib.Core.Path.{◌≡◌, refl, ap, ◌∙◌}
use mathlib.Core.List.{[], ◌∷◌}
use Prim.Native.Nat.{ℕ, ◌+◌, ◌*◌}
use native.Mathlib.Omega.{arith}
use lib.ListN.{length, get_or}
use lib.Seq.{sets, length-sets}
use Rattle.netlist.specs.Layout.{latch_count}
use Rattle.aiger_order.specs.Private.Steps.{latch_in}
use Rattle.aiger_order.proofs.LimitLaws.{facts}
use Rattle.aiger_order.proofs.StoreLaws.{latch_sized, stored_next}
use borrow.Author.Rules.{rules}
use Rattle.aiger_order.proofs.stores.store_latches.Goals as goal

pub loop-k-init : goal.loop-k-init
loop-k-init c = let o = (facts _ c.requires.0) in (search rules, omega arith, omega arith, refl)

pub new_literal-next-requires : goal.new_literal-next-requires
new_literal-next-requires c =
    let o = (facts _ c.requires.0) in
    let n = c.requires.1 in
    let h = o.nexts c.loop-k.k (rw c.of-count.ensures.latches at c.loop-k-test.true) in
    (omega (arith, n.long, o.small), n.all _ h)

pub loop-k-preserved : goal.loop-k-preserved
unfolding latch_in
loop-k-preserved c =
    let i = c.loop-k.invariant in
    let at = 5 + 2 * c.loop-k.k in
    let e = ap (λ (v : ℕ). sets c.loop-k.net at (v ∷ get_or c.args.loose.now (at + 1) 0 ∷ [])) c.new_literal-next.ensures in
    (search rules, i.1, i.2, stored_next _ 2 (latch_sized c.args.loose.now c.args.news.now) c.args.net.now 5 c.loop-k.k i.3 refl (c.store_pair.ensures ∙ e))

pub shape_of-net : goal.shape_of-net
shape_of-net c = ap length c.loop-k.invariant.3 ∙ simp length-sets

pub returns : goal.returns
returns c =
    let e : c.loop-k.k ≡ latch_count c.args.loose.now = omega arith in
    rw e at c.loop-k.invariant.3
