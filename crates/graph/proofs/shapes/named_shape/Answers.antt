-- `graph::shapes::named_shape` meets its contract. Assumes nothing.
use mathlib.Core.Path.{sym, ◌∙◌}
use native.Mathlib.Omega.{arith}
use Rattle.graph.proofs.PieceLaws.{part-rest}
use Rattle.graph.proofs.PieceLaws.{same_told}
use Rattle.graph.proofs.RecordLaws.{named-mode, named-vertex, named-not, named-sized}
use Rattle.graph.proofs.shapes.named_shape.Goals as goal

pub returns-then-eq : goal.returns-then-eq
returns-then-eq c =
    let a = c.args in
    let w = c.mode_shape.ensures a.line.now in
    (w.0 ∙ named-mode a.line.now a.at c.piece-kind.ensures (part-rest a.line.now a.at c.requires.0.0) (same_told c.piece-kind.result.now c.as_slice.result.now c.eq.ensures c.as_slice.ensures c.if-eq.true), w.1)

pub returns-then-is_name : goal.returns-then-is_name
returns-then-is_name c =
    let a = c.args in
    (named-vertex a.line.now a.at c.piece-kind.ensures (part-rest a.line.now a.at c.requires.0.0) (same_told c.piece-kind.result.now c.as_slice.result.now c.eq.ensures c.as_slice.ensures c.if-eq.false) (same_told c.piece-kind.result.now c.as_slice-2.result.now c.eq-2.ensures c.as_slice-2.ensures c.if-eq-2.true) (sym c.is_name.ensures ∙ c.if-is_name.true), c.requires.0)

pub returns-then-eq-2 : goal.returns-then-eq-2
returns-then-eq-2 c =
    let a = c.args in
    (named-not a.line.now a.at c.piece-kind.ensures (part-rest a.line.now a.at c.requires.0.0) (same_told c.piece-kind.result.now c.as_slice.result.now c.eq.ensures c.as_slice.ensures c.if-eq.false) (same_told c.piece-kind.result.now c.as_slice-2.result.now c.eq-2.ensures c.as_slice-2.ensures c.if-eq-2.true) (sym c.is_name.ensures ∙ c.if-is_name.false), tt)

pub sized_shape-requires : goal.sized_shape-requires
sized_shape-requires c = (c.requires, omega arith)

pub returns : goal.returns
returns c =
    let a = c.args in (
      c.sized_shape.ensures.0
          ∙ named-sized a.line.now a.at c.piece-kind.ensures c.requires.0.0 (same_told c.piece-kind.result.now c.as_slice.result.now c.eq.ensures c.as_slice.ensures c.if-eq.false) (same_told c.piece-kind.result.now c.as_slice-2.result.now c.eq-2.ensures c.as_slice-2.ensures c.if-eq-2.false),
      c.sized_shape.ensures.1,
    )
