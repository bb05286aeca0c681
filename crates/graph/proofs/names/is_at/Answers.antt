-- `graph::names::is_at` meets its contract. Assumes nothing.
use mathlib.Core.Path.{ap, ◌∙◌}
use Rattle.graph.specs.Pieces.{same}
use Rattle.graph.proofs.PieceLaws.{same_is}
use Rattle.graph.proofs.names.is_at.Goals as goal

pub returns : goal.returns
returns c = c.eq.ensures ∙ same_is _ _ ∙ ap (same c.args.name.now) c.piece.ensures
