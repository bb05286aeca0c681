-- `graph::modes::make_terminal` meets its contract: the edges before the index are terminal, the others as they
-- were. Assumes nothing.
use mathlib.Core.Path.{◌≡◌}
use lib.ListN.{take}
use Rattle.graph.specs.Private.Steps.{all_terminal}
use Rattle.graph.proofs.modes.make_terminal.Given as goal

abbrev pub invariant-loop-a : goal.invariant-loop-a
invariant-loop-a l = l.a-items ≡ all_terminal l.a-index (take l.fn.g.edges l.fn.g.arcs)
