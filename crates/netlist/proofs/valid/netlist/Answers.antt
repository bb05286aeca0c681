-- `netlist` meets its contract. Assumes nothing.
use mathlib.Core.Path.{sym, ◌∙◌}
use native.Mathlib.Omega.{arith}
use borrow.Author.Tests.{not-true, not-false}
use Rattle.netlist.specs.Valid.{is_netlist}
use Rattle.netlist.proofs.ValidLaws.{outline}
use borrow.Author.Rules.{rules}
use Rattle.netlist.proofs.valid.netlist.Goals as goal

pub returns-then-not-outline : goal.returns-then-not-outline
unfolding is_netlist
returns-then-not-outline c = let e = sym c.outline.ensures ∙ not-true _ c.if-not-outline.true-raw in rw e

pub overflow_add-first : goal.overflow_add-first
overflow_add-first c =
    let h = c.of-header.ensures in
    let is = sym c.outline.ensures ∙ not-false _ c.if-not-outline.false-raw in
    let v = outline c.args.net.now is in
    omega (arith, v, h.inputs, h.latches)

pub overflow_add-first-2 : goal.overflow_add-first-2
overflow_add-first-2 c =
    let h = c.of-header.ensures in
    let is = sym c.outline.ensures ∙ not-false _ c.if-not-outline.false-raw in
    let v = outline c.args.net.now is in
    omega (arith, v, h.inputs, h.latches)

pub gates_ok-requires : goal.gates_ok-requires
gates_ok-requires c =
    let h = c.of-header.ensures in
    let is = sym c.outline.ensures ∙ not-false _ c.if-not-outline.false-raw in
    let v = outline c.args.net.now is in
    record {
      at_value = (omega (arith, c.operands_at.ensures, h.latches, h.outputs), omega (arith, h.inputs, h.latches));
      count_in_bounds = (omega (arith, v, c.operands_at.ensures, h.latches, h.outputs, h.gates), omega (arith, v, h.inputs, h.latches, h.gates));
    }

pub returns : goal.returns
unfolding is_netlist
returns c =
    let is = sym c.outline.ensures ∙ not-false _ c.if-not-outline.false-raw in
    rw (is, ← c.of-header.ensures.gates) c.gates_ok.ensures
