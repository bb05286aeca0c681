-- `graph::modes::choose` meets its contract. Assumes nothing.
use mathlib.Core.Path.{sym, ◌∙◌}
use Rattle.graph.proofs.modes.choose.Goals as goal

pub returns-then-each_terminal : goal.returns-then-each_terminal
returns-then-each_terminal c = rw (sym c.each_terminal.ensures ∙ c.if-each_terminal.true) c.make_terminal.ensures

pub returns : goal.returns
returns c = rw (sym c.each_terminal.ensures ∙ c.if-each_terminal.false)
