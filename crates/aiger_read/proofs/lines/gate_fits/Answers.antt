-- `gate_fits` meets its contract, test by test. Assumes nothing.
use mathlib.Core.Path.{◌≡◌, sym, ap, ◌∙◌}
use mathlib.Core.Bool.{true, false, true≢false}
use Prim.Native.Nat.{◌≤◌}
use native.Mathlib.Omega.{arith}
use Rattle.netlist.specs.Literals.{literal_of, variable_of, is_inverted}
use Rattle.netlist.proofs.LiteralLaws.{made, literal-plain, literal-inverted, inverted-literal, variable-within}
use Rattle.aiger_read.proofs.RowLaws.{no_gate, gate-fresh, gate-within}
use Rattle.aiger_read.proofs.lines.gate_fits.Goals as goal

pub returns-then-lit-largest : goal.returns-then-lit-largest
returns-then-lit-largest c =
    let e : _ ≡ literal_of c.args.last.0 true = made _ true (omega (arith, c.requires.0)) c.literal-largest.ensures in
    no_gate _ _ _ _ _ _ (λ t. omega (arith, e, c.if-lit-largest.true, t.own, t.to, literal-plain (variable_of c.args.lit), literal-inverted c.args.last.0))

pub returns-then-r0-largest : goal.returns-then-r0-largest
returns-then-r0-largest c =
    let e : _ ≡ literal_of c.args.last.0 true = made _ true (omega (arith, c.requires.0)) c.literal-largest.ensures in
    no_gate _ _ _ _ _ _ (λ t. omega (arith, e, c.if-r0-largest.true, t.left))

pub returns-then-r1-largest : goal.returns-then-r1-largest
returns-then-r1-largest c =
    let e : _ ≡ literal_of c.args.last.0 true = made _ true (omega (arith, c.requires.0)) c.literal-largest.ensures in
    no_gate _ _ _ _ _ _ (λ t. omega (arith, e, c.if-r1-largest.true, t.right))

pub returns-then-is_inverted : goal.returns-then-is_inverted
returns-then-is_inverted c =
    no_gate _ _ _ _ _ _ (λ t. true≢false (sym c.if-is_inverted.true ∙ c.is_inverted.ensures ∙ ap is_inverted t.own ∙ inverted-literal _ false))

pub returns-then-variable-first : goal.returns-then-variable-first
returns-then-variable-first c =
    no_gate _ _ _ _ _ _ (λ t. omega (arith, c.if-variable-first.true, c.variable.ensures, t.from))

pub bounds-ops-place : goal.bounds-ops-place
bounds-ops-place c =
    let e : _ ≡ literal_of c.args.last.0 true = made _ true (omega (arith, c.requires.0)) c.literal-largest.ensures in
    let f : c.args.first.0 ≤ variable_of c.args.lit = omega (arith, c.if-variable-first.false, c.variable.ensures) in
    let t : c.args.lit ≤ literal_of c.args.last.0 true = omega (arith, e, c.if-lit-largest.false) in
    let w = gate-within c.args.first.0 c.args.last.0 c.args.ops.now c.args.lit c.requires f (variable-within _ _ t) in
    omega (arith, c.gate_place-place.ensures.0, w)

pub returns : goal.returns
returns c =
    let e : _ ≡ literal_of c.args.last.0 true = made _ true (omega (arith, c.requires.0)) c.literal-largest.ensures in
    rw c.gate_place-place.ensures.0
    (gate-fresh _ _ _ _ _ _ (sym c.is_inverted.ensures ∙ c.if-is_inverted.false) (omega (arith, c.if-variable-first.false, c.variable.ensures))
    (omega (arith, e, c.if-lit-largest.false)) (omega (arith, e, c.if-r0-largest.false)) (omega (arith, e, c.if-r1-largest.false)))
