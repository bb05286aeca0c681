-- `graph::modes::each_terminal` meets its contract. Assumes nothing.
use mathlib.Core.Path.{ap}
use mathlib.Core.Bool.{not}
use Rattle.graph.specs.Private.Steps.{each_terminal}
use Rattle.graph.proofs.modes.each_terminal.Goals as goal

pub returns-in-Unsaid : goal.returns-in-Unsaid
unfolding each_terminal
returns-in-Unsaid c = rw c.in-Unsaid.is (ap not c.some_marked.ensures)

pub returns-in-Terminal : goal.returns-in-Terminal
unfolding each_terminal
returns-in-Terminal c = rw c.in-Terminal.is

pub returns-in-Strong : goal.returns-in-Strong
unfolding each_terminal
returns-in-Strong c = rw c.in-Strong.is
