-- `rate::per_million` meets its contract: the two tests are those of the definition, and what they leave is a division
-- whose whole part and remainder have 32 bits. Assumes nothing.
use mathlib.Core.Path.{sym}
use native.Mathlib.Omega.{arith}
use Rattle.rate.specs.Rates.{per_million}
use Rattle.rate.proofs.RateLaws.{refused_none, refused-above, rated, division, divides}
use Rattle.rate.proofs.per_million.Goals as goal

pub returns-then-tally-eq0 : goal.returns-then-tally-eq0
returns-then-tally-eq0 c = let e = sym (refused_none _ c.if-tally-eq0.true) in
    record { value = e; divides = divides _ _ e }

pub returns-then-tally : goal.returns-then-tally
returns-then-tally c = let e = sym (refused-above _ c.if-tally.true) in
    record { value = e; divides = divides _ _ e }

pub overflow_cast-whole : goal.overflow_cast-whole
unfolding per_million
overflow_cast-whole c =
    let tally = c.args.tally in
    omega (arith, (division tally (omega arith) (omega arith)).most)

pub overflow_cast-remainder : goal.overflow_cast-remainder
unfolding per_million
overflow_cast-remainder c =
    let tally = c.args.tally in
    omega (arith, (division tally (omega arith) (omega arith)).below)

pub returns : goal.returns
unfolding per_million
returns c =
    let tally = c.args.tally in
    let e = sym (rated tally (omega arith) (omega arith)) in
    record { value = e; divides = divides tally _ e }
