-- `put_refusal` meets its contract. Assumes nothing.
use Rattle.text.proofs.WritingLaws.{then}
use Rattle.page_text.specs.Lines.{refused_line}
use Rattle.page_text.proofs.lines.put_refusal.Goals as goal

pub returns : goal.returns
unfolding refused_line
returns c =
    then c.bytes.ensures (then c.put_field.ensures (then c.put_field-2.ensures c.byte.ensures))
