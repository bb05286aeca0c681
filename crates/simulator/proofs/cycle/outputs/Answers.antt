-- `simulator::cycle::outputs` meets its contract. Assumes nothing.
use mathlib.Core.Path.{◌≡◌, sym, ◌∙◌}
use Prim.Native.Nat.{ℕ, ◌+◌, ◌*◌}
use mathlib.Core.List.{List}
use native.Mathlib.Omega.{arith}
use borrow.Author.Tests.{eq-eqb, ne_eqb}
use Rattle.netlist.specs.Layout.{latch_count, output_at}
use Rattle.netlist.proofs.ValidLaws.{valid}
use Rattle.simulator.proofs.CycleLaws.{output_at_lem}
use Rattle.simulator.proofs.cycle.outputs.Goals as goal

at_0 : (net : List ℕ) {at l : ℕ} → at ≡ 5 + 2 * l → l ≡ latch_count net → at ≡ output_at net 0
at_0 net e h = omega (arith, e, h)

pub offset_bounds-net-at : goal.offset_bounds-net-at
offset_bounds-net-at c =
    let v = valid c.args.net.now c.requires.net_value in
    omega (arith, v.sum, v.small, c.output_at-at.ensures, c.of-header.ensures.latches)

pub bounds-net-at : goal.bounds-net-at
bounds-net-at c =
    let v = valid c.args.net.now c.requires.net_value in
    omega (arith, v.long, v.output, c.output_at-at.ensures, c.of-header.ensures.latches)

pub word_of-accept-requires : goal.word_of-accept-requires
word_of-accept-requires c =
    let v = valid c.args.net.now c.requires.net_value in
    rw (at_0 c.args.net.now c.output_at-at.ensures c.of-header.ensures.latches) (omega (arith, c.requires, v.outputs 0 v.output))

pub returns-then-header-ne2 : goal.returns-then-header-ne2
returns-then-header-ne2 c =
    let e = c.of-header.ensures.outputs in (
      output_at_lem _ _ 0 _ _ (at_0 c.args.net.now c.output_at-at.ensures c.of-header.ensures.latches) c.word_of-accept.ensures,
      rw (ne_eqb _ 2 (λ o. c.if-header-ne2.true (e ∙ o))),
    )

pub overflow_add-at : goal.overflow_add-at
overflow_add-at c =
    let v = valid c.args.net.now c.requires.net_value in
    omega (arith, v.sum, v.small, c.output_at-at.ensures, c.of-header.ensures.latches)

pub offset_bounds-net-at-2 : goal.offset_bounds-net-at-2
offset_bounds-net-at-2 c =
    let v = valid c.args.net.now c.requires.net_value in
    omega (arith, v.sum, v.small, c.output_at-at.ensures, c.of-header.ensures.latches)

pub bounds-net-at-2 : goal.bounds-net-at-2
bounds-net-at-2 c =
    let v = valid c.args.net.now c.requires.net_value in
    omega (arith, v.long, c.of-header.ensures.outputs, c.if-header-ne2.false, c.output_at-at.ensures, c.of-header.ensures.latches)

pub word_of-checked-requires : goal.word_of-checked-requires
word_of-checked-requires c =
    let v = valid c.args.net.now c.requires.net_value in
    let o = sym c.of-header.ensures.outputs ∙ c.if-header-ne2.false in
    let p : c.output_at-at.result + 1 ≡ output_at c.args.net.now 1 = omega (arith, c.output_at-at.ensures, c.of-header.ensures.latches) in
    rw p (omega (arith, c.requires, v.outputs 1 (omega (arith, o))))

pub returns : goal.returns
returns c =
    let o = sym c.of-header.ensures.outputs ∙ c.if-header-ne2.false in (
      output_at_lem _ _ 0 _ _ (at_0 c.args.net.now c.output_at-at.ensures c.of-header.ensures.latches) c.word_of-accept.ensures,
      rw (eq-eqb _ 2 o) (output_at_lem _ _ 1 _ _ (omega (arith, c.output_at-at.ensures, c.of-header.ensures.latches)) c.word_of-checked.ensures),
    )
