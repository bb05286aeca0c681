-- `put_header` meets its contract: the tag, two numbers with a blank each, and a line of three. Assumes nothing.
use Rattle.text.proofs.WritingLaws.{then}
use Rattle.aiger.specs.Rows.{line}
use Rattle.aiger.proofs.RowLaws.{field}
use Rattle.aiger.proofs.put_header.Goals as goal

pub returns : goal.returns
unfolding line
returns c =
    then c.bytes.ensures (field _ 32 c.put_field.ensures (field _ 32 c.put_field-2.ensures c.put_three.ensures))
