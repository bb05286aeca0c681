-- What a call that counts ends with, by the answer whose refusal it maps to number and line. Assumes nothing.
use Rattle.std.specs.Prelude.{Result, Ok, Err, MatchResult, IsErrAnd}
use Rattle.std.proofs.lemmas.Result.{err_from_is_err_and}
use mathlib.Core.Path.{◌≡◌, refl}
use mathlib.Core.List.{List}
use Prim.Native.Nat.{ℕ, ◌≤◌}
use Rattle.text.specs.declared.Refusal.{Refusal}
use Rattle.ludopoplar.specs.Codes.{code_of}
use Rattle.ludopoplar.specs.Circuits.{Filled, filled}
use Rattle.ludopoplar.specs.Private.Counts.{counted_code, counted_after}
use Rattle.ludopoplar.proofs.NumberLaws.{not-accepted}

module _ {E : Type 0} (of : E → Refusal) (mapped : Result ℕ Refusal) (before code count : ℕ) (ec : code ≡ counted_code mapped) (en : count ≡ counted_after mapped before) where
  abbrev Maps : Result ℕ E → Type 0
  Maps answer = MatchResult answer (λ n. mapped ≡ Ok n) (λ cause. IsErrAnd mapped (λ r. r ≡ of cause))

  -- the end that a definition gives for each answer
  pub ends : (told : Result ℕ E → List ℕ → ℕ → Filled)
      → ((n : ℕ) (buffer : List ℕ) → filled 0 buffer n ≡ told (Ok n) buffer before)
      → ((cause : E) (buffer : List ℕ) → filled (code_of (of cause)) buffer before ≡ told (Err cause) buffer before)
      → (answer : Result ℕ E) → Maps answer → (buffer : List ℕ) → filled code buffer count ≡ told answer buffer before
  unfolding counted_code counted_after
  ends told ok err (Ok n) m buffer = rw (ec, en, m) (ok n buffer)
  ends told ok err (Err cause) m buffer = let p = err_from_is_err_and mapped m in rw (ec, en, p.1, p.2) (err cause buffer)

  -- a code of 0 tells that the answer counts what was stored
  pub accepts : ((cause : E) → 1 ≤ (of cause).number) → code ≡ 0 → (answer : Result ℕ E) → Maps answer → answer ≡ Ok count
  unfolding counted_code counted_after
  accepts least z (Ok n) m = rw (en, m) refl
  accepts least z (Err cause) m =
      let p = err_from_is_err_and mapped m in
      not-accepted (of cause) code (least cause) (rw (ec, p.1, p.2) refl) z
