-- What the clause `divides` of per_million gives the call that takes the rate of a tally. Assumes nothing.
use Rattle.std.specs.Prelude.{Result}
use Rattle.rate.specs.declared.Rate.{Rate}
use Rattle.rate.specs.declared.Cause.{Cause}
use mathlib.Core.Path.{◌≡◌, ap, ◌∙◌}
use Prim.Native.Nat.{ℕ}
use Rattle.rate.specs.Rates.{refusal_of, rate_of}
use Rattle.rate.specs.Claims.{Divides}
use Rattle.ludopoplar.specs.Codes.{code_of}
use Rattle.ludopoplar.specs.Runs.{tally_of}
use Rattle.ludopoplar.specs.Rates.{RateCallEnd, rate_as, rate_call}
use Rattle.ludopoplar.specs.Claims.{CallDivides}

module _ (cycles rejected whole remainder : ℕ) (answer : Result Rate Cause) (divides : Divides (tally_of cycles rejected) answer) where
  call : CallDivides cycles rejected whole remainder (rate_as answer whole remainder)
  unfolding rate_as code_of refusal_of
  call =
      record {
        refused = λ why. rw (divides.refused why);
        accepted = λ some within. rw (divides.rated some within).answered;
        division = λ some within. rw (divides.rated some within).answered (divides.rated some within).division;
      }

  -- an end that has the code and the results of the answer is what the definition gives, and what is claimed holds of it
  pub ends : answer ≡ rate_of (tally_of cycles rejected) → (end : RateCallEnd) → end ≡ rate_as answer whole remainder
      → (end ≡ rate_call cycles rejected whole remainder) × CallDivides cycles rejected whole remainder end
  unfolding rate_call
  ends e end told = (told ∙ ap (λ (a : Result Rate Cause). rate_as a whole remainder) e, rw told call)
