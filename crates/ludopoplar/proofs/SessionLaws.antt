-- What the clauses of check and find give the two calls on a session. Assumes nothing.
use Rattle.std.specs.Prelude.{Result, Ok}
use mathlib.Core.Path.{◌≡◌, ap, ◌∙◌}
use mathlib.Core.List.{List}
use Prim.Native.Nat.{ℕ}
use lib.ListN.{length}
use Rattle.first_broken.specs.declared.refusal.Cause.{Cause}
use Rattle.first_broken.specs.declared.places.Side.{Side}
use Rattle.first_broken.specs.declared.places.Side.TheVariants.{Flywheel, Handle}
use Rattle.first_broken.specs.declared.places.Found.{Found}
use Rattle.first_broken.specs.Refusals.{Measurement, check_of}
use Rattle.first_broken.specs.Places.{found_of}
use Rattle.first_broken.specs.Claims.{CheckMeans, RefusedFor, BrokenFirst, FoundIn}
use Rattle.first_broken.proofs.ClaimLaws.{check_told, part-told}
use Rattle.ludopoplar.specs.Codes.{code_of}
use Rattle.ludopoplar.specs.Sessions.{check_code, broken_check_call, broken_line_end, trace_number, broken_line_as, broken_line_call}
use Rattle.ludopoplar.specs.Claims.{CallChecks, CallFinds}

module _ (width : ℕ) (f h : Measurement) where
  -- a code that is that of check's answer
  pub checked : (answer : Result Unit Cause) → answer ≡ check_of width f h → CheckMeans width f h (RefusedFor answer) (answer ≡ Ok tt)
      → (code : ℕ) → code ≡ check_code answer
      → (code ≡ broken_check_call width f h) × CallChecks width f h code
  unfolding broken_check_call check_code code_of
  checked answer e means code is =
      (is ∙ ap check_code e, check_told width f h (RefusedFor answer) _ (answer ≡ Ok tt) _ (λ cause number line r. rw (is, r.0, r.1)) (λ p. rw (is, p)) means)

  -- results that are those of find's answer
  module _ (answer : Found) (c t o l : ℕ) (code : c ≡ 0) (trace : t ≡ trace_number answer.side) (offset : o ≡ answer.at) (count : l ≡ answer.length) where
    told : (b : Side) (at : ℕ) (line : List ℕ) → FoundIn answer b at line → (c ≡ 0) × (t ≡ trace_number b) × (o ≡ at) × (l ≡ length line)
    told b at line r =
        (code, trace ∙ ap (λ (x : Found). trace_number x.side) r, offset ∙ ap (λ (x : Found). x.at) r, count ∙ ap (λ (x : Found). x.length) r)

    pub found : answer ≡ found_of width f h → BrokenFirst width f h (FoundIn answer Flywheel) (FoundIn answer Handle)
        → (broken_line_end c t o l ≡ broken_line_call width f h) × CallFinds width f h c t o l
    unfolding broken_line_call broken_line_as trace_number
    found e first = (
      rw (code, trace, offset, count) (ap broken_line_as e),
      part-told width f h (FoundIn answer Flywheel) _ (FoundIn answer Handle) _ (told Flywheel) (told Handle) first,
    )
