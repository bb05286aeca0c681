-- `put_sum` meets its contract. Assumes nothing.
use Rattle.text.proofs.WritingLaws.{then}
use Rattle.page_text.specs.Lines.{sum_line}
use Rattle.page_text.proofs.lines.put_sum.Goals as goal

pub returns : goal.returns
unfolding sum_line
returns c =
    then c.bytes.ensures (then c.put_field.ensures (then c.put_field-2.ensures c.put_verdict.ensures))
