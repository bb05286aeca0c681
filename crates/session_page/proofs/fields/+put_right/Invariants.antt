-- `session_page::fields::put_right` meets its contract; the number falls. Assumes nothing.
use Rattle.session_page.proofs.fields.+put_right.Given as goal

abbrev pub decreases-put_right : goal.decreases-put_right
decreases-put_right l = l.n
