-- Rates of tallies, worked with the numbers written out. Assumes nothing.
use Rattle.std.specs.Prelude.{Result, Ok, Err}
use Rattle.rate.specs.declared.Rate.{Rate}
use Rattle.rate.specs.declared.Cause.{Cause}
use Prim.Native.Nat.{ℕ}
use mathlib.Core.Path.{◌≡◌, refl}
use Rattle.rate.specs.declared.Cause.TheVariants.{NoRate}
use Rattle.rate.specs.Rates.{refusal_of, has_no_rate, per_million, rate_of}

-- cycles, rejected
abbrev rate : ℕ → ℕ → Result Rate Cause
rate c r = rate_of (record { cycles = c; rejected = r; checked = 0 })

-- whole part, remainder
abbrev parts : ℕ → ℕ → Result Rate Cause
parts w m = Ok (record { whole = w; remainder = m })

rated :
    (rate 1 0 ≡ parts 0 0)
    × (rate 1 1 ≡ parts 1000000 0)
    × (rate 2 1 ≡ parts 500000 0)
    × (rate 3 1 ≡ parts 333333 1)
    × (rate 3 2 ≡ parts 666666 2)
    × (rate 7 3 ≡ parts 428571 3)
    × (rate 9 2 ≡ parts 222222 2)
    × (rate 1000000 1 ≡ parts 1 0)
    × (rate 1000001 1 ≡ parts 0 1000000)
    × (rate 524288 17 ≡ parts 32 222784)
    × (rate 4294967295 1 ≡ parts 0 1000000)
    × (rate 4294967295 4294967294 ≡ parts 999999 4293967295)
    × (rate 4294967295 4294967295 ≡ parts 1000000 0)
unfolding rate_of has_no_rate per_million
rated = (refl, refl, refl, refl, refl, refl, refl, refl, refl, refl, refl, refl, refl)

refused :
    (rate 0 0 ≡ Err NoRate)
    × (rate 0 1 ≡ Err NoRate)
    × (rate 5 6 ≡ Err NoRate)
unfolding rate_of has_no_rate
refused = (refl, refl, refl)

-- number 21, line 0
number : refusal_of NoRate ≡ record { number = 21; line = 0 }
unfolding refusal_of
number = refl
