-- `put_field` meets its contract. Assumes nothing.
use Rattle.text.proofs.WritingLaws.{then}
use Rattle.page_text.specs.Lines.{field}
use Rattle.page_text.proofs.lines.put_field.Goals as goal

pub returns : goal.returns
unfolding field
returns c = then c.byte.ensures c.number.ensures
