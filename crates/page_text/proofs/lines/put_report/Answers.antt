-- `put_report` meets its contract. Assumes nothing.
use Rattle.text.proofs.WritingLaws.{then}
use Rattle.page_text.specs.Lines.{report}
use Rattle.page_text.proofs.lines.put_report.Goals as goal

pub returns : goal.returns
unfolding report
returns c = then c.put_cycles.ensures c.put_sum.ensures
