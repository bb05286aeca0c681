-- `ludo_per_million` meets its contract: `per_million` answers what `rate_of` gives, and each case of the answer fixes
-- code and results. Assumes nothing.
use Rattle.ludopoplar.specs.Rates.{rate_as}
use Rattle.ludopoplar.proofs.RateLaws.{ends}
use Rattle.ludopoplar.proofs.ludo_per_million.Goals as goal

pub returns-in-Ok : goal.returns-in-Ok
unfolding rate_as
returns-in-Ok c = let p = ends _ _ _ _ _ c.per_million-rated.ensures.divides c.per_million-rated.ensures.value _ (rw c.in-Ok.is) in record { remainder_after = p.0; divides = p.1 }

pub returns-in-Err : goal.returns-in-Err
unfolding rate_as
returns-in-Err c = let p = ends _ _ _ _ _ c.per_million-rated.ensures.divides c.per_million-rated.ensures.value _
    (rw (c.in-Err.is, c.code.ensures, c.refusal.ensures)) in record { remainder_after = p.0; divides = p.1 }
