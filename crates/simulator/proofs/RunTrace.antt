-- A run and its trace: it is refused where a test fails, a line told is the first wrong one, and the tally has room for its
-- lines or the run is refused for it. Assumes nothing.
use Rattle.std.specs.Prelude.{Result, Ok, Err}
use mathlib.Core.Path.{◌≡◌, refl, sym, ap, ◌∙◌}
use mathlib.Core.List.{List, []}
use mathlib.Core.Bool.{true≢false}
use Prim.Native.Nat.{ℕ, suc, ◌-◌}
use native.Mathlib.Omega.{arith}
use lib.ListN.{length}
use Rattle.netlist.specs.Layout.{input_count}
use Rattle.calls.specs.declared.refusal.Cause.{Cause}
use Rattle.calls.specs.declared.refusal.Cause.TheVariants.{WrongLine, NotNetlist, FullTally}
use Rattle.calls.specs.declared.tally.Tally.{Tally}
use Rattle.calls.specs.Tallies.{Fits}
use Rattle.calls.specs.Refusals.{run_check}
use Rattle.trace.specs.Traces.{cycles_of}
use Rattle.trace.specs.Claims.{FirstWrong}
use Rattle.trace.proofs.TraceLaws.{length-cycles}
use Rattle.trace.proofs.LineLaws.{trace-means}
use Rattle.calls.proofs.TallyLaws.{room_fits, fits-room}
use Rattle.calls.proofs.RefusalLaws.{run-passed, run-wrong-line, run-full}
use Rattle.calls.proofs.ClaimLaws.{run_tested}
use Rattle.simulator.specs.declared.outcome.Verdict.{Verdict}
use Rattle.simulator.specs.Run.{verdict_of, running, run_cycles, RunEnd, run_end, ran_to, run_as, run_of}
use Rattle.simulator.specs.Claims.{TraceOfRun}
use Rattle.simulator.proofs.RunLaws.{run-refused, run_is}

-- the cause of a refusal
unfoldable cause_in : Result Verdict Cause → Cause
cause_in (Ok v) = NotNetlist
cause_in (Err cause) = cause

module _ (net trace latches values verdicts : List ℕ) (t : Tally) where
  abbrev check : Result Unit Cause
  check = run_check net trace (length latches) (length values) (length verdicts) t

  abbrev outcome : Result Verdict Cause
  outcome = (run_of net trace latches values verdicts t).answer.outcome

  abbrev refused_as : Cause → RunEnd
  refused_as cause = run_end (record { outcome = Err cause; tally = t }) latches values verdicts

  -- a refusal of the run is one of its tests
  told_by_lem : (c : Result Unit Cause) (cause : Cause) → (run_as c net trace latches values verdicts t).answer.outcome ≡ Err cause → c ≡ Err cause
  unfolding run_as ran_to cause_in
  told_by_lem (Ok tt) cause e = let z : ◌≡◌ {A = ℕ} 0 1 = cc in absurd (omega arith)
  told_by_lem (Err told) cause e = ap Err (ap cause_in e)

  -- and a run with a verdict passed them
  passed_by : (c : Result Unit Cause) (v : Verdict) → (run_as c net trace latches values verdicts t).answer.outcome ≡ Ok v → c ≡ Ok tt
  unfolding run_as
  passed_by (Ok tt) v e = refl
  passed_by (Err cause) v e = let z : ◌≡◌ {A = ℕ} 0 1 = cc in absurd (omega arith)

  first-wrong : (k : ℕ) → outcome ≡ Err (WrongLine k) → (j : ℕ) × (k ≡ suc j) × FirstWrong (input_count net) j trace
  unfolding run_of
  first-wrong k e =
      let w = run-wrong-line net trace (length latches) (length values) (length verdicts) t k (told_by_lem check (WrongLine k) e) in
      let s : k ≡ suc (k - 1) = omega (arith, w.1) in
      (k - 1, s, (trace-means (input_count net) trace).first (k - 1) (w.0 ∙ s))

  -- there is room for all lines in each number of the tally
  fits : (v : Verdict) → outcome ≡ Ok v → Fits t (length (cycles_of (input_count net) trace))
  unfolding run_of
  fits v e =
      let r = run-passed net trace (length latches) (length values) (length verdicts) t (passed_by check v e) in
      room_fits t _ (rw (length-cycles (input_count net) trace) r.room)

  fits_not : outcome ≡ Err FullTally → Fits t (length (cycles_of (input_count net) trace)) → ⊥
  unfolding run_of
  fits_not e f =
      let no = run-full net trace (length latches) (length values) (length verdicts) t (told_by_lem check FullTally e) in
      true≢false (sym (rw (length-cycles (input_count net) trace) at (fits-room t _ f)) ∙ no)

  kept_as : (cause : Cause) → outcome ≡ Err cause → run_of net trace latches values verdicts t ≡ refused_as cause
  unfolding run_of
  kept_as cause e = sym (run-refused net trace latches values verdicts t check cause refl (told_by_lem check cause e))

  passed_as : (v : Verdict) → outcome ≡ Ok v → check ≡ Ok tt
  unfolding run_of
  passed_as v e = passed_by check v e

  done : check ≡ Ok tt → outcome ≡ Ok (verdict_of (run_cycles net (running latches values [] t) (cycles_of (input_count net) trace)).bytes)
  unfolding ran_to
  done e = ap (λ (x : RunEnd). x.answer.outcome) (run_is net trace latches values verdicts t e)

  pub trace_of_run : TraceOfRun net trace latches values verdicts t
  trace_of_run =
      record {
        means = trace-means (input_count net) trace;
        passed = passed_as;
        line = first-wrong;
        guarded = fits;
        full = fits_not;
        tests = run_tested _ _ net trace (length latches) (length values) (length verdicts) t (λ e. (_, done e)) (λ cause e. (sym (ap (λ (x : RunEnd). x.answer.outcome) (run-refused net trace latches values verdicts t check cause refl e)), refl));
        kept = kept_as;
      }
