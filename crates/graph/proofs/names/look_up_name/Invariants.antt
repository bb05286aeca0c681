-- `graph::names::look_up_name` meets its contract: what is left has the name where all has. Assumes nothing.
use mathlib.Core.Path.{◌≡◌}
use lib.ListN.{take, drop}
use Rattle.graph.specs.Pieces.{look_up_name}
use Rattle.graph.specs.Private.Steps.{held}
use Rattle.graph.proofs.names.look_up_name.Given as goal

abbrev pub invariant-loop-y : goal.invariant-loop-y
invariant-loop-y l = look_up_name l.name (held l.text (drop l.y-index l.among)) ≡ look_up_name l.name (held l.text (take l.count l.symbols))
