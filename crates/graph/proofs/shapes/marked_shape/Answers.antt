-- `graph::shapes::marked_shape` meets its contract. Assumes nothing.
use Rattle.graph.proofs.PieceLaws.{same_told}
use Rattle.graph.proofs.RecordLaws.{marked-terminal, marked_other, marked-not}
use borrow.Author.Rules.{rules}
use Rattle.graph.proofs.shapes.marked_shape.Goals as goal

pub returns-then-eq : goal.returns-then-eq
returns-then-eq c = (marked-terminal _ _ _ _ _ _ c.piece-m.ensures (same_told c.piece-m.result.now c.as_slice.result.now c.eq.ensures c.as_slice.ensures c.if-eq.true), search rules)

pub returns-then-eq-2 : goal.returns-then-eq-2
returns-then-eq-2 c =
    (marked_other _ _ _ _ _ _ c.piece-m.ensures (same_told c.piece-m.result.now c.as_slice.result.now c.eq.ensures c.as_slice.ensures c.if-eq.false) (same_told c.piece-m.result.now c.as_slice-2.result.now c.eq-2.ensures c.as_slice-2.ensures c.if-eq-2.true), search rules)

pub returns : goal.returns
returns c =
    let a = c.args in
    (marked-not a.line.now a.from a.to a.mark a.left a.right c.piece-m.ensures (same_told c.piece-m.result.now c.as_slice.result.now c.eq.ensures c.as_slice.ensures c.if-eq.false) (same_told c.piece-m.result.now c.as_slice-2.result.now c.eq-2.ensures c.as_slice-2.ensures c.if-eq-2.false), search rules)
