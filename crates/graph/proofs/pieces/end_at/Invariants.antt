-- `graph::pieces::end_at` meets its contract: the end from here is the end. Assumes nothing.
use mathlib.Core.Path.{◌≡◌}
use Rattle.graph.specs.Pieces.{end_at}
use Rattle.graph.proofs.pieces.end_at.Given as goal

abbrev pub invariant-loop-i : goal.invariant-loop-i
invariant-loop-i l = end_at l.b l.s l.i ≡ end_at l.b l.s l.at
