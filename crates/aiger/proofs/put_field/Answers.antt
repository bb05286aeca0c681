-- `put_field` meets its contract. Assumes nothing.
use Rattle.text.proofs.WritingLaws.{then}
use Rattle.aiger.proofs.put_field.Goals as goal

pub returns : goal.returns
returns c = then c.number.ensures c.byte.ensures
