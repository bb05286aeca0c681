-- What the contract of per_million claims of its answer, without a quotient. Assumes nothing.
use Rattle.std.specs.Prelude.{Result, Ok, Err, ◌≡◌, ◌⊎◌, ℕ, ◌+◌, ◌*◌, ◌<◌, ◌≤◌}
use Rattle.rate.specs.declared.Cause.{Cause}
use Rattle.calls.specs.declared.tally.Tally.{Tally}
use Rattle.rate.specs.declared.Cause.TheVariants.{NoRate}
use Rattle.rate.specs.declared.Rate.{Rate}

-- whole and remainder are whole part and remainder of rejected × 1,000,000 ÷ cycles
pub record Division (cycles rejected whole remainder : ℕ) : Type 0 where
  pub equation : rejected * 1000000 ≡ whole * cycles + remainder
  pub below : remainder < cycles
  -- a million at most, so the whole part has at most 7 digits
  pub most : whole ≤ 1000000

-- the rate that is answered of a tally
pub record RateOfTally (t : Tally) (answer : Result Rate Cause) : Type 0 where
  pub rate : Rate
  pub answered : answer ≡ Ok rate
  pub division : Division t.cycles t.rejected rate.whole rate.remainder

-- a tally with no cycle, or more rejected than cycles, is refused; of every other the rate is answered
pub record Divides (t : Tally) (answer : Result Rate Cause) : Type 0 where
  pub refused : (t.cycles ≡ 0) ⊎ (t.cycles < t.rejected) → answer ≡ Err NoRate
  pub rated : 0 < t.cycles → t.rejected ≤ t.cycles → RateOfTally t answer
