-- `is_outline` meets its contract. Assumes nothing.
use Rattle.netlist.proofs.OutlineLaws.{outline_means}
use Rattle.netlist.proofs.is_outline.Goals as goal

pub returns : goal.returns
returns c = record { value = c.outline.ensures; meaning = outline_means _ }
