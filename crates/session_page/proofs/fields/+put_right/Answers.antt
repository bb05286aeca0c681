-- `put_right` meets its contract: the digits before the last, or blanks, and then the last; the number falls. Assumes nothing.
use native.Mathlib.Omega.{arith}
use Rattle.text.proofs.WritingLaws.{then}
use Rattle.session_page.proofs.FieldLaws.{right-small, right-more}
use Rattle.session_page.proofs.fields.+put_right.Goals as goal
use Rattle.session_page.proofs.fields.+put_right.Goals.{then-n-lt10, else-n-lt10}

pub returns : goal.returns
returns t c =
    let a = c.args in
    elim c.if-n-lt10.branch [
      | then-n-lt10 w ↦ rw (right-small a.width a.n {before = c.saturating_sub-room.result} (omega arith) w.if-n-lt10.true) (then w.put_blanks.ensures (rw w.page-is at c.byte.ensures))
      | else-n-lt10 w ↦ rw (right-more a.width a.n {before = c.saturating_sub-room.result} (omega arith) w.if-n-lt10.false) (then w.put_right.ensures (rw w.page-is at c.byte.ensures))
    ]
