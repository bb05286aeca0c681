-- What the clauses of build, start, step and run give the calls that are named after them. Assumes nothing.
use Rattle.std.specs.Prelude.{Result, Ok, Err}
use mathlib.Core.Path.{◌≡◌, refl, ap, ap₂, sym, ◌∙◌, subst}
use mathlib.Core.Bool.{Bool, true, false, cond, not}
use mathlib.Core.List.{List, ◌++◌}
use Prim.Native.Nat.{ℕ}
use native.Mathlib.Omega.{arith}
use lib.Dec.{leb}
use lib.ListN.{length, drop}
use Rattle.graph.specs.Reading.{Outcome, refused, accepted, graph_of}
use Rattle.circuit.specs.Checked.{gates_with}
use Rattle.circuit.specs.Numbers.{numbers_with}
use Rattle.builder.specs.declared.Cause as builder
use Rattle.builder.specs.declared.Cause.TheVariants.{TooManyVariables, ShortBuffer}
use Rattle.builder.specs.Build.{variables_of, BuildEnd, build_end, build_as, build_of}
use Rattle.builder.specs.Claims.{BuildMeans}
use Rattle.calls.specs.declared.tally.Tally.{Tally}
use Rattle.simulator.specs.Start.{StartEnd, start_of}
use Rattle.simulator.specs.Step.{StepEnd, step_of}
use Rattle.simulator.specs.Run.{RunEnd, run_of}
use Rattle.simulator.specs.Claims.{WordsOfStart, StepCounts, TraceOfRun}
use Rattle.ludopoplar.specs.Codes.{code_of}
use Rattle.ludopoplar.specs.Circuits as circuits
use Rattle.ludopoplar.specs.Circuits.{Filled, build_with}
use Rattle.ludopoplar.specs.Runs.{verdict_number, start_code, step_code, word_after, run_code, verdict_after}
use Rattle.ludopoplar.specs.CheckedRuns.{second_after}
use Rattle.ludopoplar.specs.CallClaims.{CallBuilds, CallAnswers, CallStarts, CallSteps, CallRuns}

-- ---- build: the text of an accepted build is a graph's
module _ (checked : Bool) (text before after : List ℕ) (answer : Result ℕ builder.Cause) (made : ℕ) (e : build_end answer after ≡ build_of checked text before) (gates : answer ≡ Ok made) (means : BuildMeans checked text before) where
  built : (build_of checked text before).answer ≡ Ok made
  built = sym (ap (λ (x : BuildEnd). x.answer) e) ∙ gates

  builds_as : (o : Outcome) → graph_of text ≡ o → CallBuilds checked text before after made
  unfolding build_of build_as
  builds_as (refused cause) is =
      let no = sym built ∙ ap (λ (o : Outcome). (build_as checked o before).answer) is in
      let z : ◌≡◌ {A = ℕ} 0 1 = cc in
      absurd (omega arith)
  builds_as (accepted g) is =
      record {
        graph = g;
        read = is;
        numbers = ap (λ (x : BuildEnd). x.net) e ∙ means.numbers g made is built;
        demand = means.demand g made is built;
      }

  pub builds : CallBuilds checked text before after made
  builds = builds_as (graph_of text) refl

-- ---- build: a refused one leaves the buffer as it was
record Kept (before : List ℕ) (e : BuildEnd) : Type 0 where
  kept : (cause : builder.Cause) → e.answer ≡ Err cause → e.net ≡ before

kept_if : {before : List ℕ} (b : Bool) (cause : builder.Cause) (e : BuildEnd) → Kept before e → Kept before (cond b (build_end (Err cause) before) e)
kept_if true cause e k = record { kept = λ c is. refl }
kept_if false cause e k = k

kept-gates : {before : List ℕ} (n : ℕ) (net : List ℕ) → Kept before (build_end (Ok n) net)
kept-gates n net = record { kept = λ c is. let z : ◌≡◌ {A = ℕ} 0 1 = cc in absurd (omega arith) }

kept_as : (checked : Bool) (o : Outcome) (before : List ℕ) → Kept before (build_as checked o before)
unfolding build_as
kept_as checked (refused cause) before = record { kept = λ c is. refl }
kept_as checked (accepted g) before =
    let n = numbers_with checked g in
    kept_if (not (leb (variables_of checked g) 4095)) TooManyVariables _ (kept_if (not (leb (length n) (length before))) ShortBuffer _ (kept-gates (length (gates_with checked g)) (n ++ drop (length n) before)))

pub answers : (checked : Bool) (text before : List ℕ) (was : ℕ) (end : Filled) → end ≡ build_with checked text before was
    → CallAnswers checked text before was end
unfolding build_with circuits.build_as code_of build_of
answers checked text before was end is =
    let e = build_of checked text before in
    record {
      accepted = λ made told. is ∙ ap (λ (o : Result ℕ builder.Cause). circuits.build_as o e.net was) told;
      refused = λ cause told. is ∙ ap₂ (λ (o : Result ℕ builder.Cause) (n : List ℕ). circuits.build_as o n was) told ((kept_as checked (graph_of text) before).kept cause told);
    }

-- ---- start: an accepted one gives the tally of three zeros, a refused one changes nothing
module _ (net latches : List ℕ) (t : Tally) (Ends : ℕ → List ℕ → Tally → Type 0) where
  abbrev Started : StartEnd → Type 0
  Started e = Ends (start_code e.answer.outcome) e.latches e.answer.tally

  pub starts : WordsOfStart net latches t → Started (start_of net latches t) → CallStarts net latches t Ends
  unfolding start_code code_of
  starts means is =
      record {
        ready = λ told. rw (told, means.clears (means.passed told)) at is;
        refused = λ cause told. subst Started (means.kept cause told) is;
      }

-- ---- step: what it answers and leaves, by its two cases
module _ (net cycle latches values : List ℕ) (t : Tally) (word second : ℕ) (Ends : ℕ → List ℕ → List ℕ → Tally → ℕ → ℕ → Type 0) where
  abbrev Stepped : StepEnd → Type 0
  Stepped e = Ends (step_code e.answer.outcome) e.latches e.values e.answer.tally (word_after e.answer.outcome word) (second_after e.answer.outcome second)

  pub steps : (end : StepEnd) → end ≡ step_of net cycle latches values t → StepCounts net cycle latches values t end
      → Stepped (step_of net cycle latches values t) → CallSteps net cycle latches values t word second Ends
  unfolding step_code word_after second_after code_of
  steps end e counts is =
      record {
        accepted = λ w c told. rw told at is;
        refused = λ cause told. subst Stepped (sym e ∙ counts.kept cause (ap (λ (x : StepEnd). x.answer.outcome) e ∙ told)) is;
      }

-- ---- run: the same, and its verdict
module _ (net trace latches values verdicts : List ℕ) (t : Tally) (result : ℕ) (Ends : ℕ → List ℕ → List ℕ → List ℕ → Tally → ℕ → Type 0) where
  abbrev Ran : RunEnd → Type 0
  Ran e = Ends (run_code e.answer.outcome) e.latches e.values e.verdicts e.answer.tally (verdict_after e.answer.outcome result)

  pub runs : TraceOfRun net trace latches values verdicts t → Ran (run_of net trace latches values verdicts t)
      → CallRuns net trace latches values verdicts t result Ends
  unfolding run_code verdict_after verdict_number code_of
  runs means is =
      record {
        rejected = λ told. rw told at is;
        accepted = λ told. rw told at is;
        refused = λ cause told. subst Ran (means.kept cause told) is;
      }
