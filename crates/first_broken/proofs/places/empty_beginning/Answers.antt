-- `first_broken::places::empty_beginning` meets its contract. Assumes nothing.
use mathlib.Core.Path.{refl}
use Rattle.first_broken.specs.Places.{beginning}
use Rattle.first_broken.proofs.places.empty_beginning.Goals as goal

pub returns : goal.returns
unfolding beginning
returns c = refl
