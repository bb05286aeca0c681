-- `refusal` meets its contract. Assumes nothing.
use mathlib.Core.Path.{◌≡◌, refl}
use Rattle.page.specs.declared.Cause.{Cause}
use Rattle.page.specs.declared.Cause.TheVariants.{ShortBuffer}
use Rattle.page.specs.Pages.{refusal_of}
use Rattle.page.proofs.Cause.refusal.Goals as goal

only : (x : Cause) → record { number = 12; line = 0 } ≡ refusal_of x
unfolding refusal_of
only ShortBuffer = refl

pub returns : goal.returns
returns c = only _
