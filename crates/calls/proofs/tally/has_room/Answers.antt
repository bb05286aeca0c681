-- `calls::tally::has_room` meets its contract. Assumes nothing.
use mathlib.Core.Path.{sym, ◌∙◌}
use Rattle.calls.specs.Tallies.{has_room}
use Rattle.calls.proofs.tally.has_room.Goals as goal
use Rattle.calls.proofs.tally.has_room.Goals.{then-fits, else-fits}

pub returns-then-fits-2 : goal.returns-then-fits-2
unfolding has_room
returns-then-fits-2 c =
    elim c.if-fits.branch [
      | then-fits w ↦ rw (sym c.fits.ensures ∙ w.if-fits.true, sym w.fits-then-fits.ensures ∙ sym w.value-is ∙ c.if-fits-2.true, c.fits-then-fits-2.ensures)
      | else-fits w ↦ cc
    ]

pub returns-else-fits-2 : goal.returns-else-fits-2
unfolding has_room
returns-else-fits-2 c =
    elim c.if-fits.branch [
      | then-fits w ↦ rw (sym c.fits.ensures ∙ w.if-fits.true, sym w.fits-then-fits.ensures ∙ sym w.value-is ∙ c.if-fits-2.false, c.if-fits-2.false)
      | else-fits w ↦ rw (sym c.fits.ensures ∙ w.if-fits.false, c.if-fits-2.false)
    ]
