-- `rate::Cause::refusal` meets its contract: there is one cause. Assumes nothing.
use mathlib.Core.Path.{◌≡◌, refl}
use Rattle.rate.specs.declared.Cause.{Cause}
use Rattle.rate.specs.declared.Cause.TheVariants.{NoRate}
use Rattle.rate.specs.Rates.{refusal_of}
use Rattle.rate.proofs.Cause.refusal.Goals as goal

only : (cause : Cause) → record { number = 21; line = 0 } ≡ refusal_of cause
unfolding refusal_of
only NoRate = refl

pub returns : goal.returns
returns c = only c.args.self
