-- `graph::shapes::mode_shape` meets its contract. Assumes nothing.
use Rattle.graph.proofs.PieceLaws.{same_told}
use Rattle.graph.proofs.RecordLaws.{moded-terminal, moded-strong, moded-not}
use Rattle.graph.proofs.shapes.mode_shape.Goals as goal

pub returns-then-eq : goal.returns-then-eq
returns-then-eq c = λ line. (moded-terminal line _ (same_told c.args.word.now c.as_slice.result.now c.eq.ensures c.as_slice.ensures c.if-eq.true), tt)

pub returns-then-eq-2 : goal.returns-then-eq-2
returns-then-eq-2 c =
    λ line. (moded-strong line _ (same_told c.args.word.now c.as_slice.result.now c.eq.ensures c.as_slice.ensures c.if-eq.false) (same_told c.args.word.now c.as_slice-2.result.now c.eq-2.ensures c.as_slice-2.ensures c.if-eq-2.true), tt)

pub returns : goal.returns
returns c =
    λ line. (moded-not line _ (same_told c.args.word.now c.as_slice.result.now c.eq.ensures c.as_slice.ensures c.if-eq.false) (same_told c.args.word.now c.as_slice-2.result.now c.eq-2.ensures c.as_slice-2.ensures c.if-eq-2.false), tt)
