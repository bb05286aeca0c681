-- `graph::records::add_vertex` meets its contract. Assumes nothing.
use mathlib.Core.Path.{sym, ◌∙◌}
use Rattle.graph.proofs.ArrayLaws.{vertex_late, vertex_many, vertex_again, vertex_new}
use Rattle.graph.proofs.records.add_vertex.Goals as goal

pub returns-then-g-gt0 : goal.returns-then-g-gt0
returns-then-g-gt0 c =
    λ graph h q. vertex_late c.args.text.now c.args.g.now graph h _ c.if-g-gt0.true

pub returns-then-g-ge-MOST_VERTICES : goal.returns-then-g-ge-MOST_VERTICES
returns-then-g-ge-MOST_VERTICES c =
    λ graph h q. vertex_many c.args.text.now c.args.g.now graph h _ c.if-g-gt0.false c.if-g-ge-MOST_VERTICES.true

pub returns-then-is_some : goal.returns-then-is_some
returns-then-is_some c =
    λ graph h q. vertex_again c.args.text.now c.args.g.now graph h _ c.if-g-gt0.false c.if-g-ge-MOST_VERTICES.false c.piece.ensures c.look_up.ensures (sym c.is_some.ensures ∙ c.if-is_some.true)

pub returns : goal.returns
returns c =
    λ graph h q. rw c.push_vertex.ensures (vertex_new c.args.text.now c.args.g.now graph h _ c.if-g-gt0.false c.if-g-ge-MOST_VERTICES.false c.piece.ensures c.look_up.ensures _ q (sym c.is_some.ensures ∙ c.if-is_some.false))
