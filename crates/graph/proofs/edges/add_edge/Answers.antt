-- `graph::edges::add_edge` meets its contract. What is accepted stands before the last refusal, since an edit that
-- lets an unknown vertex through is wrong there. Assumes nothing.
use mathlib.Core.Path.{ap, ◌∙◌}
use Rattle.graph.specs.Private.Steps.{added_of}
use Rattle.graph.proofs.ArrayLaws.{edge_many, edge-from, edge_to, edge-known}
use Rattle.graph.proofs.EdgeLaws.{arc_at, edge-judged}
use Rattle.std.proofs.lemmas.Result.{err_from_is_err_and}
use Rattle.graph.specs.declared.Fault.TheVariants.{UnknownVertex}
use Rattle.graph.proofs.OptionLaws.{refused_none, taken_some}
use native.Mathlib.Omega.{arith}
use Rattle.graph.proofs.edges.add_edge.Goals as goal

pub returns-then-g-ge-MOST_EDGES : goal.returns-then-g-ge-MOST_EDGES
returns-then-g-ge-MOST_EDGES c =
    λ graph h w. edge_many c.args.text.now c.args.g.now graph h _ _ _ _ _ (omega arith)

pub returns-in_err-f : goal.returns-in_err-f
returns-in_err-f c =
    let a = c.args in
    let p = err_from_is_err_and c.from_residual.result c.from_residual.ensures.1 in
    let n = refused_none c.vertex_at.result c.ok_or.ensures.value c.in_err-f.was in
    λ graph h w. rw (p.1, p.2, n.1) (edge-from a.text.now a.g.now graph h _ _ _ _ _ (omega arith) c.vertex_at.ensures n.0)

pub judge_edge-requires : goal.judge_edge-requires
judge_edge-requires c =
    (c.requires.0, c.if-g-ge-MOST_EDGES.false)

pub returns : goal.returns
returns c =
    let a = c.args in
    let f = taken_some c.vertex_at.result UnknownVertex c.ok_or.ensures.value c.in_ok-f.was in
    let t = taken_some c.vertex_at-2.result UnknownVertex c.ok_or-2.ensures.value c.in_ok-t.was in
    λ graph h w.
    c.judge_edge.ensures graph h (arc_at a.text.now a.line.now _ _ _ _ w c.arc_of-e.ensures)
    ∙ ap (added_of a.text.now a.g.now) (edge-judged a.text.now a.line.now _ _ _ _ w c.arc_of-e.ensures graph ∙ edge-known a.text.now a.g.now graph h _ _ _ _ _ c.if-g-ge-MOST_EDGES.false c.vertex_at.ensures f c.vertex_at-2.ensures t)

pub returns-in_err-t : goal.returns-in_err-t
returns-in_err-t c =
    let a = c.args in
    let p = err_from_is_err_and c.from_residual-in_err-t.result c.from_residual-in_err-t.ensures.1 in
    let f = taken_some c.vertex_at.result UnknownVertex c.ok_or.ensures.value c.in_ok-f.was in
    let n = refused_none c.vertex_at-2.result c.ok_or-2.ensures.value c.in_err-t.was in
    λ graph h w. rw (p.1, p.2, n.1) (edge_to a.text.now a.g.now graph h _ _ _ _ _ c.if-g-ge-MOST_EDGES.false c.vertex_at.ensures f c.vertex_at-2.ensures n.0)
