-- `put_two` meets its contract. Assumes nothing.
use Rattle.aiger.specs.Rows.{line}
use Rattle.aiger.proofs.RowLaws.{field}
use Rattle.aiger.proofs.put_two.Goals as goal

pub returns : goal.returns
unfolding line
returns c =
    field _ 32 c.put_field.ensures c.put_field-2.ensures
