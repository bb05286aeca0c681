-- `graph::pieces::piece` meets its contract. Assumes nothing.
use mathlib.Core.Path.{sym, ◌∙◌}
use Rattle.graph.proofs.PieceLaws.{piece_least, piece_take}
use Rattle.graph.proofs.pieces.piece.Goals as goal

pub returns : goal.returns
returns c =
    let a = c.args in
    sym (piece_take a.b a.s.now _ _ c.end_at.ensures.0) ∙ piece_least a.b a.s.now a.at c.min-from.ensures
