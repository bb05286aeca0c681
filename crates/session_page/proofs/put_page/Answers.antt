-- `session_page::put_page` meets its contract. Assumes nothing.
use native.Mathlib.Omega.{arith}
use Rattle.text.proofs.WritingLaws.{then}
use Rattle.session_text.specs.Pages.{session_page}
use Rattle.session_text.proofs.RejectedLaws.{rejected-most}
use Rattle.session_page.proofs.PrintableLaws.{bits_are}
use Rattle.session_page.proofs.put_page.Goals as goal

pub put_cells-requires : goal.put_cells-requires
put_cells-requires c =
    bits_are c.args.name.now c.args.verdicts.now c.requires.0

pub overflow_cast-tally-2 : goal.overflow_cast-tally-2
overflow_cast-tally-2 c =
    omega (arith, c.requires.1, c.requires.2, rejected-most 1 c.args.verdicts.now)

pub put_last-requires : goal.put_last-requires
put_last-requires c =
    (omega (arith, c.requires.2, rejected-most 1 c.args.verdicts.now), c.requires.1)

pub returns : goal.returns
unfolding session_page
returns c =
    then c.put_title.ensures (then c.put_cells.ensures (rw c.requires.2 at c.put_last.ensures))
