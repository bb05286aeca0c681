-- `first_broken::places::cycle_line` meets its contract. Assumes nothing.
use mathlib.Core.Path.{refl}
use native.Mathlib.Omega.{arith}
use Rattle.first_broken.specs.Places.{cycle_line}
use Rattle.first_broken.proofs.PlaceLaws.{place-fits}
use Rattle.first_broken.proofs.places.cycle_line.Goals as goal

pub overflow_mul-result : goal.overflow_mul-result
overflow_mul-result c = omega (arith, place-fits c.args.n c.args.width c.requires.0 c.requires.1)

pub returns : goal.returns
unfolding cycle_line
returns c = refl
