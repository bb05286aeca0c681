-- `graph::shapes::edge_shape` meets its contract. Assumes nothing.
use mathlib.Core.Path.{sym, ◌∙◌}
use Rattle.graph.proofs.PieceLaws.{same_told}
use Rattle.graph.proofs.RecordLaws.{edged-kind, edged-from, edged-to, edged-all}
use borrow.Author.Rules.{rules}
use Rattle.graph.proofs.shapes.edge_shape.Goals as goal

pub returns-then-is_name-2 : goal.returns-then-is_name-2
returns-then-is_name-2 c = (
  c.marked_shape.ensures.0
      ∙ edged-all _ _ _ _ _ _ c.piece-kind.ensures (same_told c.piece-kind.result.now c.as_slice.result.now c.eq.ensures c.as_slice.ensures c.if-eq.true) c.piece-f.ensures (sym c.is_name.ensures ∙ c.if-is_name.true) c.piece-t.ensures (sym c.is_name-then-is_name.ensures ∙ c.if-is_name-2.true),
  c.marked_shape.ensures.1,
)

pub returns-else-is_name-2 : goal.returns-else-is_name-2
returns-else-is_name-2 c = (
  edged-to _ _ _ _ _ _ c.piece-kind.ensures (same_told c.piece-kind.result.now c.as_slice.result.now c.eq.ensures c.as_slice.ensures c.if-eq.true) c.piece-f.ensures (sym c.is_name.ensures ∙ c.if-is_name.true) c.piece-t.ensures (sym c.is_name-then-is_name.ensures ∙ c.if-is_name-2.false),
  search rules,
)

pub returns-else-is_name : goal.returns-else-is_name
returns-else-is_name c = (
  edged-from _ _ _ _ _ _ c.piece-kind.ensures (same_told c.piece-kind.result.now c.as_slice.result.now c.eq.ensures c.as_slice.ensures c.if-eq.true) c.piece-f.ensures (sym c.is_name.ensures ∙ c.if-is_name.false),
  search rules,
)

pub returns-else-eq : goal.returns-else-eq
returns-else-eq c = (edged-kind _ _ _ _ _ _ c.piece-kind.ensures (same_told c.piece-kind.result.now c.as_slice.result.now c.eq.ensures c.as_slice.ensures c.if-eq.false), search rules)
