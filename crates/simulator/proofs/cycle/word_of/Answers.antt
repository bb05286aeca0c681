-- `simulator::cycle::word_of` meets its contract. Assumes nothing.
use mathlib.Core.Path.{sym, ◌∙◌}
use Rattle.netlist.specs.Meaning.{lit_of, signed}
use Rattle.simulator.proofs.cycle.word_of.Goals as goal

pub returns-then-is_inverted : goal.returns-then-is_inverted
unfolding lit_of signed
returns-then-is_inverted c = rw (c.variable-v.ensures, sym c.is_inverted.ensures ∙ c.if-is_inverted.true)

pub returns-else-is_inverted : goal.returns-else-is_inverted
unfolding lit_of signed
returns-else-is_inverted c = rw (c.variable-v.ensures, sym c.is_inverted.ensures ∙ c.if-is_inverted.false)
