-- `graph::edges::judge_edge` meets its contract. Assumes nothing.
use Rattle.std.proofs.lemmas.Result.{err_from_is_err_and}
use Rattle.graph.proofs.ArrayLaws.{narrow_is, edge-fault, edge_new}
use Rattle.graph.proofs.edges.judge_edge.Goals as goal

pub returns-in_err-judge_both : goal.returns-in_err-judge_both
returns-in_err-judge_both c =
    let a = c.args in
    let p = err_from_is_err_and c.from_residual.result c.from_residual.ensures.1 in
    λ graph h w. rw (p.1, p.2) (edge-fault a.text.now a.g.now graph h a.e.from a.e.to a.e.terminal _ _ (c.judge_both.ensures (narrow_is a.text.now a.g.now graph h)) c.in_err-judge_both.was)

pub returns : goal.returns
returns c =
    let a = c.args in
    λ graph h w. rw c.push_edge.ensures (edge_new a.text.now a.g.now graph h a.e w c.requires.1 _ _ (c.judge_both.ensures (narrow_is a.text.now a.g.now graph h)) c.in_ok-judge_both.was)
