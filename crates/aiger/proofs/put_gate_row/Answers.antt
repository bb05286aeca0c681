-- `put_gate_row` meets its contract. Assumes nothing.
use Rattle.aiger.specs.Rows.{gate_row}
use Rattle.aiger.proofs.put_gate_row.Goals as goal

pub returns : goal.returns
unfolding gate_row
returns c = c.put_three.ensures
