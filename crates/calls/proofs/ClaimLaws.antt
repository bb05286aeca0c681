-- A call that goes by the tests before it, taken where they pass and refused for what they say, is taken and refused as
-- claimed. Assumes nothing.
use Rattle.std.specs.Prelude.{Ok, Err}
use mathlib.Core.Path.{◌≡◌, refl, sym}
use mathlib.Core.Bool.{Bool, true, false}
use mathlib.Core.List.{List}
use Prim.Native.Nat.{ℕ, suc}
use native.Mathlib.Omega.{arith}
use borrow.Author.Tests.{ne_eqb, le-leb, lt-leb}
use Rattle.netlist.specs.Layout.{input_count}
use Rattle.trace.proofs.TraceLaws.{length-cycles}
use Rattle.calls.specs.declared.refusal.Cause.{Cause}
use Rattle.calls.specs.declared.refusal.Cause.TheVariants.{TraceTooLong, ShortBuffer, WrongLine, NotNetlist, FullTally}
use Rattle.calls.specs.declared.tally.Tally.{Tally}
use Rattle.calls.specs.Tallies.{has_room, Fits}
use Rattle.calls.specs.Refusals.{refusal_of, is_short, has_latches, has_values, start_check, step_check, run_check}
use Rattle.calls.specs.Claims.{StartTested, StepTested, RunTested}
use Rattle.calls.proofs.TallyLaws.{room_fits, fits-room}

-- no room where a number is full
full : (t : Tally) (n : ℕ) → (Fits t n → ⊥) → has_room t n ≡ false
full t n h = go (has_room t n) refl
  where
    go : (b : Bool) → has_room t n ≡ b → b ≡ false
    go true e = absurd (h (room_fits t n e))
    go false e = refl

module _ (Taken : Type 0) (Refuses : Cause → ℕ → ℕ → Type 0) where
  pub start_tested : (net : List ℕ) (nl : ℕ) → (start_check net nl ≡ Ok tt → Taken) → ((cause : Cause) → start_check net nl ≡ Err cause → Refuses cause (refusal_of cause).number (refusal_of cause).line)
      → StartTested net nl Taken Refuses
  unfolding refusal_of start_check has_latches
  start_tested net nl took told =
      record {
        no_netlist = λ a. told NotNetlist (rw a);
        few-latches = λ a b. told ShortBuffer (rw (a, lt-leb _ _ b));
        taken = λ a b. took (rw (a, le-leb _ _ b));
      }

  pub step_tested : (net cycle : List ℕ) (nl nv : ℕ) (t : Tally)
      → (step_check net cycle nl nv t ≡ Ok tt → Taken) → ((cause : Cause) → step_check net cycle nl nv t ≡ Err cause → Refuses cause (refusal_of cause).number (refusal_of cause).line)
      → StepTested net cycle nl nv t Taken Refuses
  unfolding refusal_of step_check has_latches has_values
  step_tested net cycle nl nv t took told =
      record {
        no_netlist = λ a. told NotNetlist (rw a);
        wrong-cycle = λ a b. told (WrongLine 1) (rw (a, b));
        few-latches = λ a b c. told ShortBuffer (rw (a, b, lt-leb _ _ c));
        few-values = λ a b c d. told ShortBuffer (rw (a, b, le-leb _ _ c, lt-leb _ _ d));
        no_room = λ a b c d f. told FullTally (rw (a, b, le-leb _ _ c, le-leb _ _ d, full t 1 f));
        taken = λ a b c d f. took (rw (a, b, le-leb _ _ c, le-leb _ _ d, fits-room t 1 f));
      }

  module _ (net trace : List ℕ) (nl nv nb : ℕ) (t : Tally) where
    pub run_tested : (run_check net trace nl nv nb t ≡ Ok tt → Taken) → ((cause : Cause) → run_check net trace nl nv nb t ≡ Err cause → Refuses cause (refusal_of cause).number (refusal_of cause).line)
        → RunTested net trace nl nv nb t Taken Refuses
    unfolding refusal_of run_check is_short has_latches has_values
    run_tested took told =
        let lines = sym (length-cycles (input_count net) trace) in
        record {
          too_long = λ a. told TraceTooLong (rw (lt-leb _ _ a));
          no_netlist = λ a b. told NotNetlist (rw (le-leb _ _ a, b));
          wrong-line = λ k a b e. told (WrongLine (suc k)) (rw (le-leb _ _ a, b, e, ne_eqb (suc k) 0 (λ z. omega arith)));
          few-latches = λ r a. told ShortBuffer (rw (le-leb _ _ r.short, r.netlist, r.faultless, lt-leb _ _ a));
          few-values = λ r a b. told ShortBuffer (rw (le-leb _ _ r.short, r.netlist, r.faultless, le-leb _ _ a, lt-leb _ _ b));
          few-verdicts = λ r a b c. told ShortBuffer (rw (le-leb _ _ r.short, r.netlist, r.faultless, le-leb _ _ a, le-leb _ _ b, lines, lt-leb _ _ c));
          no_room = λ r a b c f. told FullTally (rw (le-leb _ _ r.short, r.netlist, r.faultless, le-leb _ _ a, le-leb _ _ b, lines, le-leb _ _ c, full t _ f));
          taken = λ r a b c f. took (rw (le-leb _ _ r.short, r.netlist, r.faultless, le-leb _ _ a, le-leb _ _ b, lines, le-leb _ _ c, fits-room t _ f));
        }
