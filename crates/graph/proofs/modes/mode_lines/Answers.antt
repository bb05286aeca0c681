-- `graph::modes::mode_lines` meets its contract. Assumes nothing.
use mathlib.Core.Path.{sym, ap}
use native.Mathlib.Omega.{arith}
use Rattle.graph.specs.Reading.{mode_lines}
use Rattle.graph.proofs.modes.mode_lines.Goals as goal

pub returns-in-Unsaid : goal.returns-in-Unsaid
unfolding mode_lines
returns-in-Unsaid c = (sym (ap mode_lines c.in-Unsaid.is), omega arith)

pub returns-in-Terminal : goal.returns-in-Terminal
unfolding mode_lines
returns-in-Terminal c = (sym (ap mode_lines c.in-Terminal.is), omega arith)

pub returns-in-Strong : goal.returns-in-Strong
unfolding mode_lines
returns-in-Strong c = (sym (ap mode_lines c.in-Strong.is), omega arith)
