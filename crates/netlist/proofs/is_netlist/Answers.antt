-- `is_netlist` meets its contract. Assumes nothing.
use Rattle.netlist.proofs.AigerLaws.{means}
use Rattle.netlist.proofs.is_netlist.Goals as goal

pub returns : goal.returns
returns c = record { value = c.netlist.ensures; meaning = means _ }
