-- Calls of step and run after a start, each with what was lent to it. Each is lent the same netlist, and
-- the latch words and tally that the one before left. What a call does is the definition in its
-- contract. Assumes nothing.
use Rattle.std.specs.Prelude.{Result, Ok, Err, List, [], ◌∷◌, ℕ}
use Rattle.calls.specs.declared.refusal.Cause.{Cause}
use Rattle.simulator.specs.declared.outcome.Verdict.{Verdict}
use Rattle.netlist.specs.Layout.{input_count}
use Rattle.assertion.specs.Graph.{Cycle}
use Rattle.calls.specs.declared.tally.Tally.{Tally}
use Rattle.trace.specs.Traces.{cycles_of}
use Rattle.simulator.specs.Step.{StepEnd, step_of}
use Rattle.simulator.specs.Run.{RunEnd, run_of}

-- a step with its cycle and its value buffer, or a run with its trace, its value buffer and its verdict
-- buffer; the buffers are any
pub data Call : Type 0 where
  step_call : (cycle values : List ℕ) → Call
  run_call : (trace values verdicts : List ℕ) → Call

-- what is kept from call to call: the latch words and the tally
pub record Kept : Type 0 where
  pub latches : List ℕ
  pub tally : Tally

-- the cycles that an accepted call gives; a refused one gives none
unfoldable pub step_gives : Result (ℕ × ℕ) Cause → List ℕ → List Cycle
step_gives (Ok (w, c)) cycle = cycle ∷ []
step_gives (Err cause) cycle = []

unfoldable pub run_gives : Result Verdict Cause → ℕ → List ℕ → List Cycle
run_gives (Ok verdict) inputs trace = cycles_of inputs trace
run_gives (Err cause) inputs trace = []

-- what a call answered
pub data Answer : Type 0 where
  stepped : Result (ℕ × ℕ) Cause → Answer
  ran : Result Verdict Cause → Answer

-- a call on what is kept: what is kept then, its answer, the cycles that it gave, and the verdict buffer as
-- it left it
pub record Called : Type 0 where
  pub kept : Kept
  pub answer : Answer
  pub cycles : List Cycle
  pub verdicts : List ℕ

unfoldable pub called : List ℕ → Kept → Call → Called
called net k (step_call cycle values) =
    let e = step_of net cycle k.latches values k.tally in
    record {
      kept = record { latches = e.latches; tally = e.answer.tally };
      answer = stepped e.answer.outcome;
      cycles = step_gives e.answer.outcome cycle;
      verdicts = [];
    }
called net k (run_call trace values verdicts) =
    let e = run_of net trace k.latches values verdicts k.tally in
    record {
      kept = record { latches = e.latches; tally = e.answer.tally };
      answer = ran e.answer.outcome;
      cycles = run_gives e.answer.outcome (input_count net) trace;
      verdicts = e.verdicts;
    }
