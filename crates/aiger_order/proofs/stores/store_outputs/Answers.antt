-- `store_outputs` meets its contract. Assumes nothing.
use mathlib.Core.Path.{◌≡◌, refl, ap, ◌∙◌}
use mathlib.Core.List.{List, [], ◌∷◌}
use Prim.Native.Nat.{ℕ, ◌+◌, ◌*◌}
use native.Mathlib.Omega.{arith}
use lib.ListN.{length, get_or}
use lib.Seq.{sets, length-sets}
use Rattle.netlist.specs.Layout.{output_count, output_at}
use Rattle.aiger_order.specs.Private.Steps.{output_in}
use Rattle.aiger_order.proofs.LimitLaws.{facts}
use Rattle.aiger_order.proofs.StoreLaws.{output-sized, stored_next}
use borrow.Author.Rules.{rules}
use Rattle.aiger_order.proofs.stores.store_outputs.Goals as goal

place : (loose : List ℕ) {at l : ℕ} → at ≡ 5 + 2 * l → l ≡ get_or loose 2 0 → at ≡ 5 + 2 * get_or loose 2 0
place loose e h = omega (arith, e, h)

pub loop-k-init : goal.loop-k-init
loop-k-init c = let o = (facts _ c.requires.0) in (search rules, omega arith, omega arith, refl)

pub new_literal-lit-requires : goal.new_literal-lit-requires
new_literal-lit-requires c =
    let o = (facts _ c.requires.0) in
    let n = c.requires.1 in
    let h = o.outputs c.loop-k.k (rw c.of-header.ensures.outputs at c.loop-k-test.true) in
    rw (place c.args.loose.now c.output_at-at.ensures c.of-header.ensures.latches) (omega (arith, n.long, o.small, h), n.all _ h)

pub loop-k-preserved : goal.loop-k-preserved
unfolding output_in
loop-k-preserved c =
    let i = c.loop-k.invariant in
    let at = 5 + 2 * get_or c.args.loose.now 2 0 + c.loop-k.k in
    let w : at ≡ output_at c.args.loose.now 0 + 1 * c.loop-k.k = omega arith in
    let p = place c.args.loose.now c.output_at-at.ensures c.of-header.ensures.latches in
    let e = ap (λ (v : ℕ). sets c.loop-k.net at (v ∷ [])) (rw p at c.new_literal-lit.ensures) in
    (search rules, i.1, i.2, stored_next _ 1 (output-sized c.args.loose.now c.args.news.now) c.args.net.now (output_at c.args.loose.now 0) c.loop-k.k i.3 w (rw p at c.store.ensures ∙ e))

pub shape_of-net : goal.shape_of-net
shape_of-net c = ap length c.loop-k.invariant.3 ∙ simp length-sets

pub returns : goal.returns
returns c =
    let e : c.loop-k.k ≡ output_count c.args.loose.now = omega arith in
    rw e at c.loop-k.invariant.3
