-- `put_literal_row` meets its contract. Assumes nothing.
use Rattle.aiger.specs.Rows.{line, literal_row}
use Rattle.aiger.proofs.put_literal_row.Goals as goal

pub returns : goal.returns
unfolding literal_row line
returns c = c.put_field.ensures
