-- `graph::shapes::sized_shape` meets its contract. Assumes nothing.
use mathlib.Core.Path.{sym, ◌∙◌}
use Rattle.graph.proofs.PieceLaws.{same_told}
use Rattle.graph.proofs.RecordLaws.{sized-not, sized-zero, sized_signal, sized-constant, sized-none, width_fits, name-short}
use Rattle.graph.proofs.shapes.sized_shape.Goals as goal

pub returns-then-width-eq0 : goal.returns-then-width-eq0
returns-then-width-eq0 c =
    let a = c.args in
    (sized-zero a.line.now a.at a.length a.width c.piece-kind.ensures c.part.ensures (sym c.is_name.ensures ∙ c.if-is_name.true) c.if-width-eq0.true, tt)

pub returns-then-eq : goal.returns-then-eq
returns-then-eq c =
    let a = c.args in
    (sized_signal a.line.now a.at a.length a.width c.piece-kind.ensures c.part.ensures (sym c.is_name.ensures ∙ c.if-is_name.true) c.if-width-eq0.false (same_told c.piece-kind.result.now c.as_slice.result.now c.eq.ensures c.as_slice.ensures c.if-eq.true), (c.requires.0, width_fits c.if-width-eq0.false c.requires.1, name-short a.line.now a.at a.length c.requires.0 c.part.ensures (sym c.is_name.ensures ∙ c.if-is_name.true)))

pub returns-then-eq-2 : goal.returns-then-eq-2
returns-then-eq-2 c =
    let a = c.args in
    (sized-constant a.line.now a.at a.length a.width c.piece-kind.ensures c.part.ensures (sym c.is_name.ensures ∙ c.if-is_name.true) c.if-width-eq0.false (same_told c.piece-kind.result.now c.as_slice.result.now c.eq.ensures c.as_slice.ensures c.if-eq.false) (same_told c.piece-kind.result.now c.as_slice-then-is_name.result.now c.eq-then-is_name.ensures c.as_slice-then-is_name.ensures c.if-eq-2.true), (c.requires.0, width_fits c.if-width-eq0.false c.requires.1, name-short a.line.now a.at a.length c.requires.0 c.part.ensures (sym c.is_name.ensures ∙ c.if-is_name.true)))

pub returns-else-eq-2 : goal.returns-else-eq-2
returns-else-eq-2 c =
    let a = c.args in
    (sized-none a.line.now a.at a.length a.width c.piece-kind.ensures c.part.ensures (sym c.is_name.ensures ∙ c.if-is_name.true) c.if-width-eq0.false (same_told c.piece-kind.result.now c.as_slice.result.now c.eq.ensures c.as_slice.ensures c.if-eq.false) (same_told c.piece-kind.result.now c.as_slice-then-is_name.result.now c.eq-then-is_name.ensures c.as_slice-then-is_name.ensures c.if-eq-2.false), tt)

pub returns-else-is_name : goal.returns-else-is_name
returns-else-is_name c =
    let a = c.args in
    (sized-not a.line.now a.at a.length a.width c.piece-kind.ensures c.part.ensures (sym c.is_name.ensures ∙ c.if-is_name.false), tt)
