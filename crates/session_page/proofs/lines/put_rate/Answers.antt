-- `session_page::lines::put_rate` meets its contract. Assumes nothing.
use Rattle.text.proofs.WritingLaws.{then}
use Rattle.session_text.specs.Pages.{rate_fields}
use Rattle.session_page.proofs.lines.put_rate.Goals as goal

pub returns-in-Ok : goal.returns-in-Ok
unfolding rate_fields
returns-in-Ok c =
    rw c.in-Ok.is (then c.put_right.ensures c.put_right-in-Ok.ensures)

pub returns-in-Err : goal.returns-in-Err
unfolding rate_fields
returns-in-Err c =
    rw c.in-Err.is c.put_blanks.ensures
