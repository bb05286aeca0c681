-- Rejections in a million (document 02, No. 8), from the caller's tally. Assumes nothing.
use Rattle.std.specs.Prelude.{Result, Ok, Err, Bool, cond, ◌||◌, ◌*◌, ◌/◌, ◌%◌, eqb, ltb}
use Rattle.text.specs.declared.Refusal.{Refusal}
use Rattle.calls.specs.declared.tally.Tally.{Tally}
use Rattle.rate.specs.declared.Cause.{Cause}
use Rattle.rate.specs.declared.Cause.TheVariants.{NoRate}
use Rattle.rate.specs.declared.Rate.{Rate}

-- the number and line of the cause: "no cycles, or rejected above cycles, is 21, line 0"
unfoldable pub refusal_of : Cause → Refusal
refusal_of NoRate = record { number = 21; line = 0 }

-- "no cycles, or rejected above cycles"
unfoldable pub has_no_rate : Tally → Bool
has_no_rate t = eqb t.cycles 0 || ltb t.cycles t.rejected

-- "the whole part and the remainder of rejected × 1,000,000 ÷ cycles"
unfoldable pub per_million : Tally → Rate
per_million t = record { whole = (t.rejected * 1000000) / t.cycles; remainder = (t.rejected * 1000000) % t.cycles }

-- what is answered of a tally
unfoldable pub rate_of : Tally → Result Rate Cause
rate_of t = cond (has_no_rate t) (Err NoRate) (Ok (per_million t))
