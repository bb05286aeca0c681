-- `ludo_broken_line` meets its contract: `find` answers what `found_of` gives, and its fields are the results. Assumes
-- nothing.
use mathlib.Core.Path.{refl}
use Rattle.ludopoplar.proofs.SessionLaws.{found}
use Rattle.ludopoplar.proofs.ludo_broken_line.Goals as goal

pub returns : goal.returns
returns c = let p = found _ _ _ c.find-found.result _ _ _ _ refl c.trace_number.ensures refl refl c.find-found.ensures.value c.find-found.ensures.first in record { length_after = p.0; first = p.1 }
