-- What the contracts of build, start, step and run claim of what they return and leave behind their pointers, by the
-- calls that they are named after: the names of document 01, and those of document 02, No. 7. Assumes nothing.
use Rattle.std.specs.Prelude.{Ok, Err, ◌≡◌, Bool, List, ◌++◌, ℕ, ◌+◌, ◌*◌, ◌^◌, length, drop}
use Rattle.assertion.specs.Graph.{Graph}
use Rattle.graph.specs.Reading.{accepted, graph_of}
use Rattle.circuit.specs.Numbers.{numbers_with}
use Rattle.demand.specs.Demand.{Demand3}
use Rattle.builder.specs.declared.Cause as builder
use Rattle.builder.specs.Build as build
use Rattle.builder.specs.Build.{build_of}
use Rattle.calls.specs.declared.refusal.Cause.{Cause}
use Rattle.calls.specs.declared.tally.Tally.{Tally}
use Rattle.calls.specs.Refusals.{refusal_of}
use Rattle.simulator.specs.declared.outcome.Verdict.TheVariants as verdict
use Rattle.simulator.specs.Start.{start_of}
use Rattle.simulator.specs.Step.{step_of}
use Rattle.simulator.specs.Run.{RunEnd, run_of}
use Rattle.ludopoplar.specs.Circuits.{Filled}
use Rattle.ludopoplar.specs.Runs.{StartCallEnd, StepCallEnd, RunCallEnd}
use Rattle.ludopoplar.specs.CheckedRuns.{StartCheckedEnd, StepCheckedEnd, RunCheckedEnd}

-- ---- build that returned 0: the numbers of a graph, with checked or without, stand first in the buffer, and do what
-- demand 3 asks
pub record CallBuilds (checked : Bool) (text before after : List ℕ) (gates : ℕ) : Type 0 where
  pub graph : Graph
  pub read : graph_of text ≡ accepted graph
  pub numbers : after ≡ numbers_with checked graph ++ drop (length (numbers_with checked graph)) before
  pub demand : (surplus : List ℕ) → Demand3 checked graph (numbers_with checked graph ++ surplus) gates

-- it returns 0 where build accepts, and hands out the number of gates; where build refuses it returns
-- number × 2^32 + line, and leaves buffer and result as they were
pub record CallAnswers (checked : Bool) (text before : List ℕ) (was : ℕ) (end : Filled) : Type 0 where
  pub accepted : (made : ℕ) → (build_of checked text before).answer ≡ Ok made
      → end ≡ record { code = 0; buffer = (build_of checked text before).net; result = made }
  pub refused : (cause : builder.Cause) → (build_of checked text before).answer ≡ Err cause
      → end ≡ record { code = (build.refusal_of cause).number * 2 ^ 32 + (build.refusal_of cause).line; buffer = before; result = was }

-- ---- start, step and run: an accepted call leaves what the call of that name leaves, and its results; a refused one
-- returns number × 2^32 + line and leaves all as it was. Ends: it returns this code and leaves these
pub record CallStarts (net latches : List ℕ) (t : Tally) (Ends : ℕ → List ℕ → Tally → Type 0) : Type 0 where
  pub ready : (start_of net latches t).answer.outcome ≡ Ok tt
      → Ends 0 (start_of net latches t).latches (record { cycles = 0; rejected = 0; checked = 0 })
  pub refused : (cause : Cause) → (start_of net latches t).answer.outcome ≡ Err cause
      → Ends ((refusal_of cause).number * 2 ^ 32 + (refusal_of cause).line) latches t

-- the results are the two words
pub record CallSteps (net cycle latches values : List ℕ) (t : Tally) (word second : ℕ) (Ends : ℕ → List ℕ → List ℕ → Tally → ℕ → ℕ → Type 0) : Type 0 where
  pub accepted : (w c : ℕ) → (step_of net cycle latches values t).answer.outcome ≡ Ok (w, c)
      → Ends 0 (step_of net cycle latches values t).latches (step_of net cycle latches values t).values (step_of net cycle latches values t).answer.tally w c
  pub refused : (cause : Cause) → (step_of net cycle latches values t).answer.outcome ≡ Err cause
      → Ends ((refusal_of cause).number * 2 ^ 32 + (refusal_of cause).line) latches values t word second

-- the result is 1 where the run was rejected, 0 where it was accepted
abbrev pub RanTo : (ℕ → List ℕ → List ℕ → List ℕ → Tally → ℕ → Type 0) → RunEnd → ℕ → Type 0
RanTo Ends e result = Ends 0 e.latches e.values e.verdicts e.answer.tally result

pub record CallRuns (net trace latches values verdicts : List ℕ) (t : Tally) (result : ℕ) (Ends : ℕ → List ℕ → List ℕ → List ℕ → Tally → ℕ → Type 0) : Type 0 where
  pub rejected : (run_of net trace latches values verdicts t).answer.outcome ≡ Ok verdict.Rejected
      → RanTo Ends (run_of net trace latches values verdicts t) 1
  pub accepted : (run_of net trace latches values verdicts t).answer.outcome ≡ Ok verdict.Accepted
      → RanTo Ends (run_of net trace latches values verdicts t) 0
  pub refused : (cause : Cause) → (run_of net trace latches values verdicts t).answer.outcome ≡ Err cause
      → Ends ((refusal_of cause).number * 2 ^ 32 + (refusal_of cause).line) latches values verdicts t result

-- ---- Ends of a call with three pointers for the tally: each number, buffer and result stands behind its own
abbrev pub StartByThree : StartCheckedEnd → ℕ → List ℕ → Tally → Type 0
StartByThree end code latches t = end ≡ record { code = code; latches = latches; tally = t }

abbrev pub StepByThree : StepCheckedEnd → ℕ → List ℕ → List ℕ → Tally → ℕ → ℕ → Type 0
StepByThree end code latches values t word second =
    end ≡ record { code = code; latches = latches; values = values; tally = t; word = word; second = second }

abbrev pub RunByThree : RunCheckedEnd → ℕ → List ℕ → List ℕ → List ℕ → Tally → ℕ → Type 0
RunByThree end code latches values verdicts t result =
    end ≡ record { code = code; latches = latches; values = values; verdicts = verdicts; tally = t; verdict = result }

-- ---- and of one with two: the third number and the second word are dropped
abbrev pub StartByTwo : StartCallEnd → ℕ → List ℕ → Tally → Type 0
StartByTwo end code latches t = end ≡ record { code = code; latches = latches; cycles = t.cycles; rejected = t.rejected }

abbrev pub StepByTwo : StepCallEnd → ℕ → List ℕ → List ℕ → Tally → ℕ → ℕ → Type 0
StepByTwo end code latches values t word second =
    end ≡ record { code = code; latches = latches; values = values; cycles = t.cycles; rejected = t.rejected; word = word }

abbrev pub RunByTwo : RunCallEnd → ℕ → List ℕ → List ℕ → List ℕ → Tally → ℕ → Type 0
RunByTwo end code latches values verdicts t result =
    end ≡ record { code = code; latches = latches; values = values; verdicts = verdicts; cycles = t.cycles; rejected = t.rejected; verdict = result }
