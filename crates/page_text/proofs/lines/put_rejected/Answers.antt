-- `put_rejected` meets its contract. Assumes nothing.
use Rattle.text.proofs.WritingLaws.{then}
use Rattle.page_text.specs.Lines.{rejected_line}
use Rattle.page_text.proofs.lines.put_rejected.Goals as goal

pub returns : goal.returns
unfolding rejected_line
returns c =
    then c.byte.ensures (then c.put_field.ensures c.byte-2.ensures)
