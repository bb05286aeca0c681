-- `is_loose` meets its contract. Assumes nothing.
use mathlib.Core.Path.{sym, ◌∙◌}
use mathlib.Core.Bool.{true}
use native.Mathlib.Omega.{arith}
use borrow.Author.Tests.{not-true, not-false}
use Rattle.netlist.proofs.LiteralLaws.{made}
use Rattle.netlist.proofs.ValidLaws.{outline}
use Rattle.gate_order.specs.Loose.{is_loose}
use Rattle.aiger_order.proofs.limits.is_loose.Goals as goal

pub returns-then-not-is_outline : goal.returns-then-not-is_outline
unfolding is_loose
returns-then-not-is_outline c = let e = sym c.is_outline.ensures.value ∙ not-true _ c.if-not-is_outline.true-raw in rw e

pub gates_of-gates-requires : goal.gates_of-gates-requires
gates_of-gates-requires c = (sym c.is_outline.ensures.value ∙ not-false _ c.if-not-is_outline.false-raw)

pub operands_ok-requires : goal.operands_ok-requires
operands_ok-requires c =
    let g = c.gates_of-gates.ensures in
    let o = outline _ ((sym c.is_outline.ensures.value ∙ not-false _ c.if-not-is_outline.false-raw)) in
    record { at_value = (g.at, rw (← c.of.ensures.maximum) (made _ true (omega (arith, o, c.of.ensures.maximum)) c.literal-last.ensures)); count_in_bounds = omega arith }

pub returns : goal.returns
unfolding is_loose
returns c =
    let g = c.gates_of-gates.ensures in
    rw ((sym c.is_outline.ensures.value ∙ not-false _ c.if-not-is_outline.false-raw), ← g.count) c.operands_ok.ensures
