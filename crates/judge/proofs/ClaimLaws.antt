-- What is claimed of a judgement holds of what the definition gives. Assumes nothing.
use Rattle.std.specs.Prelude.{Result, Ok, Err}
use mathlib.Core.Path.{◌≡◌, refl, sym, ap, subst}
use mathlib.Core.Bool.{Bool, true, false, cond, not}
use mathlib.Core.List.{List, [], ◌++◌}
use Prim.Native.Nat.{ℕ, zero, suc, ◌+◌, ◌≤◌}
use native.Mathlib.Omega.{arith}
use borrow.Author.Tests.{leb-true, leb-false, eqb-true, eqb-false}
use lib.Dec.{eqb, leb}
use lib.ListN.{length, drop}
use Rattle.assertion.specs.Graph.{Bytes, Graph, signal_bits}
use Rattle.assertion.specs.Paths.{verdicts, count_rejected, PathsMean}
use Rattle.assertion.proofs.PathLaws.{paths_mean}
use Rattle.graph.specs.Reading.{Outcome, refused, accepted, graph_of}
use Rattle.calls.specs.declared.tally.Tally.{Tally}
use Rattle.simulator.specs.declared.outcome.Verdict.{Verdict}
use Rattle.builder.specs.declared.Cause.TheVariants.{TooManyVariables}
use Rattle.builder.specs.Build as build
use Rattle.builder.specs.Build.{variables_of}
use Rattle.trace.specs.Traces.{fault_of, cycles_of}
use Rattle.trace.proofs.LineLaws.{trace-means}
use Rattle.calls.specs.Refusals as calls
use Rattle.calls.specs.Refusals.{is_short}
use Rattle.calls.specs.declared.refusal.Cause.TheVariants.{TraceTooLong, WrongLine, ShortBuffer}
use Rattle.simulator.specs.Run.{verdict_of}
use Rattle.demand.proofs.Held.{verdicts-length}
use Rattle.demand.proofs.Verdicts.{verdict_of-paths}
use Rattle.judge.specs.declared.Cause.{Cause}
use Rattle.judge.specs.declared.Cause.TheVariants as cause
use Rattle.judge.specs.Judge.{refusal_of, inputs_of, JudgeEnd, judge_end, trace_judged, judge_as, judge_of}
use Rattle.judge.specs.Claims.{IsGraph, IsTrace, JudgeMeans, RefusedFor, GivenAs}
use Rattle.judge.specs.Claims.JudgeMeans.{no_graph, too_large, too_long, wrong-line, short, judged}

module _ (text trace : Bytes) (before : List ℕ) where
  -- what is claimed, of an end
  abbrev Holds : JudgeEnd → Type 0
  Holds x = JudgeMeans text trace before x.verdicts (RefusedFor x.answer) (GivenAs x.answer)

  module _ (g : Graph) (is : IsGraph text g) where
    abbrev n : ℕ
    n = 1 + signal_bits g

    abbrev cycles : List Bytes
    cycles = cycles_of n trace

    abbrev bytes : List ℕ
    bytes = verdicts g [] cycles

    is-trace : length trace ≤ 1048576 → fault_of n trace ≡ 0 → IsTrace g trace cycles
    is-trace l e = let w = (trace-means n trace).whole e in record { short = l; lines = w.0; right = w.1 }

    wrong : length trace ≤ 1048576 → (f : ℕ) → fault_of n trace ≡ f → (f ≡ 0 → ⊥) → Holds (judge_end (Err (cause.Trace (WrongLine f))) before)
    unfolding refusal_of calls.refusal_of
    wrong l zero e d = absurd (d refl)
    wrong l (suc k) e d = wrong-line g k (refl, refl) refl is l ((trace-means n trace).first k e)

    done : length trace ≤ 1048576 → fault_of n trace ≡ 0 → length bytes ≤ length before
        → Holds (judge_end (Ok (record { cycles = length cycles; rejected = count_rejected g cycles; checked = 0 }, verdict_of bytes)) (bytes ++ drop (length bytes) before))
    done l e room =
        let same = verdicts-length g [] cycles in
        judged g cycles (verdict_of bytes) refl (ap (λ (k : ℕ). bytes ++ drop k before) same) is (is-trace l e) (omega (arith, same, room)) (verdict_of-paths g [] cycles)

    trace-holds : Holds (trace_judged g trace before)
    unfolding trace_judged is_short inputs_of refusal_of calls.refusal_of
    trace-holds = go (leb (length trace) 1048576) refl (eqb (fault_of n trace) 0) refl (leb (length bytes) (length before)) refl
      where
        go : (s : Bool) → leb (length trace) 1048576 ≡ s → (f : Bool) → eqb (fault_of n trace) 0 ≡ f → (r : Bool) → leb (length bytes) (length before) ≡ r
            → Holds (
            cond (not s) (judge_end (Err (cause.Trace TraceTooLong)) before)
            (cond (not f) (judge_end (Err (cause.Trace (WrongLine (fault_of n trace)))) before)
            (cond (not r) (judge_end (Err (cause.Trace ShortBuffer)) before)
            (judge_end (Ok (record { cycles = length cycles; rejected = count_rejected g cycles; checked = 0 }, verdict_of bytes)) (bytes ++ drop (length bytes) before))))
            )
        go false l f e r m = too_long g (refl, refl) refl is (leb-false (length trace) 1048576 l)
        go true l false e r m = wrong (leb-true (length trace) 1048576 l) (fault_of n trace) refl (eqb-false (fault_of n trace) 0 e)
        go true l true e false m =
            short g cycles (refl, refl) refl is (is-trace (leb-true (length trace) 1048576 l) (eqb-true (fault_of n trace) 0 e))
            (omega (arith, leb-false (length bytes) (length before) m, verdicts-length g [] cycles))
        go true l true e true m = done (leb-true (length trace) 1048576 l) (eqb-true (fault_of n trace) 0 e) (leb-true (length bytes) (length before) m)

  text-holds : (o : Outcome) → graph_of text ≡ o → Holds (judge_as o trace before)
  unfolding judge_as refusal_of build.refusal_of
  text-holds (refused c) e = no_graph c (refl, refl) refl e
  text-holds (accepted g) e = go (leb (variables_of false g) 4095) refl
    where
      go : (b : Bool) → leb (variables_of false g) 4095 ≡ b → Holds (cond b (trace_judged g trace before) (judge_end (Err (cause.Graph TooManyVariables)) before))
      go true l = trace-holds g (record { read = e; small = leb-true (variables_of false g) 4095 l })
      go false l = too_large g (refl, refl) refl e (leb-false (variables_of false g) 4095 l)

  judge_means : {answer : Result (Tally × Verdict) Cause} {after : List ℕ} → judge_end answer after ≡ judge_of text trace before
      → JudgeMeans text trace before after (RefusedFor answer) (GivenAs answer)
  unfolding judge_of
  judge_means e = subst Holds (sym e) (text-holds (graph_of text) refl)

  -- an end that is what the definition gives is all that judge promises
  pub ends : {answer : Result (Tally × Verdict) Cause} {after : List ℕ} → judge_end answer after ≡ judge_of text trace before
      → (judge_end answer after ≡ judge_of text trace before) × (PathsMean × JudgeMeans text trace before after (RefusedFor answer) (GivenAs answer))
  ends e = (e, (paths_mean, judge_means e))
