-- `put_verdict` meets its contract. Assumes nothing.
use Rattle.page_text.specs.Lines.{verdict_field}
use Rattle.page_text.proofs.lines.put_verdict.Goals as goal

pub returns-in-Accepted : goal.returns-in-Accepted
unfolding verdict_field
returns-in-Accepted c =
    rw c.in-Accepted.is c.bytes.ensures

pub returns-in-Rejected : goal.returns-in-Rejected
unfolding verdict_field
returns-in-Rejected c =
    rw c.in-Rejected.is c.bytes-in-Rejected.ensures
