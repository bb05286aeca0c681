-- `graph::shapes::shape_of` meets its contract. Assumes nothing.
use Rattle.graph.proofs.RecordLaws.{field-one, field_next, field-long, fields_1, fields_2, fields_3, fields_4, fields_5, fields_6, fields_7}
use Rattle.graph.proofs.WidthFieldLaws.{width-most}
use mathlib.Core.Path.{sym, ◌∙◌}
use borrow.Author.Rules.{rules}
use Rattle.graph.proofs.shapes.shape_of.Goals as goal

pub returns-then-t0-line : goal.returns-then-t0-line
returns-then-t0-line c = (fields_1 _ c.end_at-t0.ensures c.if-t0-line.true, search rules)

pub named_shape-requires : goal.named_shape-requires
named_shape-requires c =
    let s = c.args.line.now in
    let f1 = field-one s c.end_at-t0.ensures.0 in
    ((search rules, f1), field-long s 1 f1 (sym c.if-t1-line.true ∙ c.end_at-t1.ensures.0))

pub returns-then-t1-line : goal.returns-then-t1-line
returns-then-t1-line c = (
  c.named_shape.ensures.0 ∙ sym (fields_2 _ c.end_at-t0.ensures c.if-t0-line.false c.end_at-t1.ensures c.if-t1-line.true),
  c.named_shape.ensures.1,
)

pub sized_shape-requires : goal.sized_shape-requires
sized_shape-requires c =
    let s = c.args.line.now in
    let f1 = field-one s c.end_at-t0.ensures.0 in
    (((search rules, f1), field-long s 1 f1 c.end_at-t1.ensures.0), rw c.width_of-width.ensures (width-most _))

pub returns-then-t2-line : goal.returns-then-t2-line
returns-then-t2-line c = (
  c.sized_shape.ensures.0
      ∙ fields_3 _ c.end_at-t0.ensures c.if-t0-line.false c.end_at-t1.ensures c.if-t1-line.false c.end_at-t2.ensures c.if-t2-line.true c.width_of-width.ensures,
  c.sized_shape.ensures.1,
)

pub returns-then-t3-line : goal.returns-then-t3-line
returns-then-t3-line c =
    (fields_4 _ c.end_at-t0.ensures c.if-t0-line.false c.end_at-t1.ensures c.if-t1-line.false c.end_at-t2.ensures c.if-t2-line.false c.end_at-t3.ensures c.if-t3-line.true, search rules)

pub returns-then-t4-line : goal.returns-then-t4-line
returns-then-t4-line c =
    (fields_5 _ c.end_at-t0.ensures c.if-t0-line.false c.end_at-t1.ensures c.if-t1-line.false c.end_at-t2.ensures c.if-t2-line.false c.end_at-t3.ensures c.if-t3-line.false c.end_at-t4.ensures c.if-t4-line.true, search rules)

pub edge_shape-requires : goal.edge_shape-requires
edge_shape-requires c =
    let s = c.args.line.now in
    let f1 = field-one s c.end_at-t0.ensures.0 in
    let f2 = field_next s 1 f1 c.end_at-t1.ensures.0 in
    let f3 = field_next s 2 f2 c.end_at-t2.ensures.0 in
    let f4 = field_next s 3 f3 c.end_at-t3.ensures.0 in
    let f5 = field_next s 4 f4 c.end_at-t4.ensures.0 in
    ((search rules, f4), (search rules, f5))

pub returns-then-t5-line : goal.returns-then-t5-line
returns-then-t5-line c = (
  c.edge_shape.ensures.0
      ∙ sym (fields_6 _ c.end_at-t0.ensures c.if-t0-line.false c.end_at-t1.ensures c.if-t1-line.false c.end_at-t2.ensures c.if-t2-line.false c.end_at-t3.ensures c.if-t3-line.false c.end_at-t4.ensures c.if-t4-line.false c.end_at-t5.ensures c.if-t5-line.true),
  c.edge_shape.ensures.1,
)

pub returns : goal.returns
returns c = (
  fields_7 _ c.end_at-t0.ensures c.if-t0-line.false c.end_at-t1.ensures c.if-t1-line.false c.end_at-t2.ensures c.if-t2-line.false c.end_at-t3.ensures c.if-t3-line.false c.end_at-t4.ensures c.if-t4-line.false c.end_at-t5.ensures c.if-t5-line.false,
  search rules,
)
