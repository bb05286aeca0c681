-- The call that takes the rate of a tally, document 02, No. 8: the return code, and whole part and remainder through
-- their pointers, which a refusal leaves as they were. The answer is that of per_million's own definition. Assumes
-- nothing.
use Rattle.std.specs.Prelude.{Result, Ok, Err, ℕ}
use Rattle.rate.specs.declared.Rate.{Rate}
use Rattle.rate.specs.declared.Cause.{Cause}
use Rattle.rate.specs.Rates.{refusal_of, rate_of}
use Rattle.ludopoplar.specs.Codes.{accepted_code, code_of}
use Rattle.ludopoplar.specs.Runs.{tally_of}

pub record RateCallEnd : Type 0 where
  pub code : ℕ
  pub whole : ℕ
  pub remainder : ℕ

abbrev pub rate_call_end : ℕ → ℕ → ℕ → RateCallEnd
rate_call_end c w m = record { code = c; whole = w; remainder = m }

unfoldable pub rate_as : Result Rate Cause → ℕ → ℕ → RateCallEnd
rate_as (Ok rate) whole remainder = rate_call_end accepted_code rate.whole rate.remainder
rate_as (Err cause) whole remainder = rate_call_end (code_of (refusal_of cause)) whole remainder

unfoldable pub rate_call : ℕ → ℕ → ℕ → ℕ → RateCallEnd
rate_call cycles rejected whole remainder = rate_as (rate_of (tally_of cycles rejected)) whole remainder
