-- `refusal` meets its contract. Assumes nothing.
use mathlib.Core.Path.{◌≡◌, refl}
use Rattle.page.specs.declared.InputFault.{InputFault}
use Rattle.page.specs.declared.InputFault.TheVariants.{TooLong}
use Rattle.page.specs.Pages.{input_refusal}
use Rattle.page.proofs.InputFault.refusal.Goals as goal

only : (x : InputFault) → record { number = 1; line = 0 } ≡ input_refusal x
unfolding input_refusal
only TooLong = refl

pub returns : goal.returns
returns c = only _
