-- What the clauses of lay_out give the call that lays out a session page. Assumes nothing.
use Rattle.std.specs.Prelude.{Result, Ok, Err}
use mathlib.Core.Path.{◌≡◌, ap, sym, ◌∙◌}
use mathlib.Core.List.{List}
use Prim.Native.Nat.{ℕ, ◌+◌, ◌*◌, ◌^◌}
use native.Mathlib.Omega.{arith}
use Rattle.session_page.specs.declared.Cause.{Cause}
use Rattle.session_page.specs.LayOut.{LaidEnd, laid_end, lay_out_of}
use Rattle.session_page.specs.Claims.{LaysOut, RefusedFor, GivenTells}
use Rattle.session_page.proofs.ClaimLaws.{lays_told}
use Rattle.ludopoplar.specs.Codes.{code_of}
use Rattle.ludopoplar.specs.Circuits.{Filled, filled}
use Rattle.ludopoplar.specs.Pages.{page_as, session_page_call}
use Rattle.ludopoplar.specs.Claims.{CallLays, CallTells}
use Rattle.ludopoplar.proofs.NumberLaws.{numbered}

-- code and length of the answer
module _ (after : List ℕ) (was code length : ℕ) where
  refuses : (answer : Result ℕ Cause) → filled code after length ≡ page_as answer after was → (cause : Cause) (number line : ℕ) → RefusedFor answer cause number line
      → (code ≡ number * 2 ^ 32 + line) × (length ≡ was)
  unfolding page_as code_of
  refuses answer is cause number line r =
      let e : filled code after length ≡ filled (number * 2 ^ 32 + line) after was = is ∙ rw (r.0, r.1) in
      (ap (λ (f : Filled). f.code) e, ap (λ (f : Filled). f.result) e)

  gives : (answer : Result ℕ Cause) → filled code after length ≡ page_as answer after was → (n : ℕ) → answer ≡ Ok n → (code ≡ 0) × (length ≡ n)
  unfolding page_as
  gives answer is n r =
      let e : filled code after length ≡ filled 0 after n = is ∙ rw r in
      (ap (λ (f : Filled). f.code) e, ap (λ (f : Filled). f.result) e)

  -- an accepted code tells the answer
  given : (answer : Result ℕ Cause) → filled code after length ≡ page_as answer after was → (n : ℕ) → (code ≡ 0) × (length ≡ n) → answer ≡ Ok n
  unfolding page_as code_of
  given (Ok m) is n r = ap Ok (sym (ap (λ (f : Filled). f.result) is) ∙ r.1)
  given (Err cause) is n r = absurd (omega (arith, numbered.page-numbered cause, ap (λ (f : Filled). f.code) is, r.0))

-- an end that has code and length of lay_out's answer is what the definition gives, and what is claimed holds of it
pub laid : (name verdicts before after : List ℕ) (was code length : ℕ) (answer : Result ℕ Cause)
    → laid_end answer after ≡ lay_out_of name verdicts before
    → LaysOut name verdicts before after (RefusedFor answer) (λ n. answer ≡ Ok n)
    → GivenTells name verdicts after (λ n. answer ≡ Ok n)
    → filled code after length ≡ page_as answer after was
    → (filled code after length ≡ session_page_call name verdicts before was)
    × (CallLays name verdicts before after code was length × CallTells name verdicts after code length)
unfolding session_page_call
laid name verdicts before after was code length answer e lays tells is = (
  is ∙ ap (λ (x : LaidEnd). page_as x.answer x.page was) e,
  (
    lays_told name verdicts before after (RefusedFor answer) _ (λ n. answer ≡ Ok n) _ (refuses after was code length answer is) (gives after was code length answer is) lays,
    λ n g. tells n (given after was code length answer is n g),
  ),
)
