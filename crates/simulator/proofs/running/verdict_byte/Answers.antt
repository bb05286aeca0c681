-- `simulator::running::verdict_byte` meets its contract. Assumes nothing.
use mathlib.Core.Path.{ap, ◌∙◌}
use mathlib.Core.Bool.{Bool, cond}
use Rattle.simulator.specs.Run.{verdict_byte}
use Rattle.netlist.proofs.EachLaws.{bit_byte}
use Rattle.simulator.proofs.running.verdict_byte.Goals as goal

pub returns : goal.returns
unfolding verdict_byte
returns c = c.from.ensures ∙ bit_byte _ ∙ ap (λ (b : Bool). cond b 1 0) c.is_rejected.ensures
