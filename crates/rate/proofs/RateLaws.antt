-- Which tallies have a rate, and that whole part and remainder are those of a division. Assumes nothing.
use Rattle.std.specs.Prelude.{Result, Ok, Err}
use Rattle.rate.specs.declared.Rate.{Rate}
use Rattle.rate.specs.declared.Cause.{Cause}
use mathlib.Core.Path.{◌≡◌, refl, sym, ◌∙◌}
use mathlib.Core.Bool.{or-true}
use mathlib.Core.Logic.{⊎_elim}
use Prim.Native.Nat.{◌*◌, ◌<◌, ◌≤◌}
use native.Mathlib.Nat.{div-add-mod', mod-lt, div-le_of_le-mul}
use native.Mathlib.Omega.{arith}
use lib.Dec.{eqb}
use borrow.Author.Tests.{eq-eqb, ne_eqb, lt-ltb, le-ltb}
use Rattle.calls.specs.declared.tally.Tally.{Tally}
use Rattle.rate.specs.declared.Cause.TheVariants.{NoRate}
use Rattle.rate.specs.Rates.{has_no_rate, per_million, rate_of}
use Rattle.rate.specs.Claims.{Division, Divides}

-- ---- which tallies are refused
pub refused_none : (t : Tally) → t.cycles ≡ 0 → rate_of t ≡ Err NoRate
unfolding rate_of has_no_rate
refused_none t e = rw (eq-eqb t.cycles 0 e)

pub refused-above : (t : Tally) → t.cycles < t.rejected → rate_of t ≡ Err NoRate
unfolding rate_of has_no_rate
refused-above t l = rw (lt-ltb t.cycles t.rejected l, or-true (eqb t.cycles 0))

pub rated : (t : Tally) → 0 < t.cycles → t.rejected ≤ t.cycles → rate_of t ≡ Ok (per_million t)
unfolding rate_of has_no_rate
rated t some within = rw (ne_eqb t.cycles 0 (λ e. omega arith), le-ltb t.cycles t.rejected within)

-- ---- the division
pub division : (t : Tally) → 0 < t.cycles → t.rejected ≤ t.cycles
    → Division t.cycles t.rejected (per_million t).whole (per_million t).remainder
unfolding per_million
division t some within =
    let product = t.rejected * 1000000 in
    let most : product ≤ t.cycles * 1000000 = omega arith in
    record {
      equation = sym (div-add-mod' product t.cycles);
      below = mod-lt product some;
      most = div-le_of_le-mul t.cycles most;
    }

-- what is claimed of an answer that is what the definition gives
pub divides : (t : Tally) (answer : Result Rate Cause) → answer ≡ rate_of t → Divides t answer
divides t answer e =
    record {
      refused = ⊎_elim (λ none. e ∙ refused_none t none) (λ above. e ∙ refused-above t above);
      rated = λ some within. record { rate = per_million t; answered = e ∙ rated t some within; division = division t some within };
    }

-- the third number has no part in it
pub rate-unchecked : (t : Tally) → rate_of t ≡ rate_of (record { cycles = t.cycles; rejected = t.rejected; checked = 0 })
unfolding rate_of has_no_rate per_million
rate-unchecked t = refl
