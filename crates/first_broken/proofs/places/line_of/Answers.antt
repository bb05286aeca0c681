-- `first_broken::places::line_of` meets its contract: each case of the cycle found is one of the definition. Assumes nothing.
use mathlib.Core.Path.{sym, ap, ◌∙◌}
use Rattle.first_broken.specs.Places.{line_of}
use Rattle.first_broken.proofs.PlaceLaws.{cycle_of, cycle-few}
use Rattle.first_broken.proofs.places.line_of.Goals as goal

pub cycle_line-requires : goal.cycle_line-requires
unfolding cycle_of
cycle_line-requires c =
    (cycle-few _ _ _ c.requires.1 c.requires.2 (ap cycle_of (sym c.earliest.ensures ∙ c.in-Some.is)), c.requires.0)

pub returns-in-None : goal.returns-in-None
unfolding line_of
returns-in-None c = rw (← c.earliest.ensures, c.in-None.is) c.empty_beginning.ensures

pub returns-in-Some : goal.returns-in-Some
unfolding line_of
returns-in-Some c = rw (← c.earliest.ensures, c.in-Some.is) c.cycle_line.ensures
