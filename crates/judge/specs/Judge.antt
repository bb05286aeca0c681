-- The judgement of a trace by a graph text, said by settings and paths: nothing here is built or run. A refusal leaves
-- the verdict buffer as it was. Assumes nothing.
use Rattle.std.specs.Prelude.{Result, Ok, Err, false, cond, not, List, [], ◌++◌, ℕ, ◌+◌, eqb, leb, length, drop}
use Rattle.text.specs.declared.Refusal.{Refusal}
use Rattle.assertion.specs.Graph.{Bytes, Graph, signal_bits}
use Rattle.assertion.specs.Paths as paths
use Rattle.assertion.specs.Paths.{count_rejected}
use Rattle.graph.specs.Reading.{Outcome, refused, accepted, graph_of}
use Rattle.builder.specs.Build as build
use Rattle.builder.specs.Build.{variables_of}
use Rattle.builder.specs.declared.Cause.TheVariants.{GraphText, TooManyVariables}
use Rattle.trace.specs.Traces.{fault_of, cycles_of}
use Rattle.calls.specs.Refusals as calls
use Rattle.calls.specs.Refusals.{is_short}
use Rattle.calls.specs.declared.refusal.Cause.TheVariants.{TraceTooLong, WrongLine, ShortBuffer}
use Rattle.calls.specs.declared.tally.Tally.{Tally}
use Rattle.simulator.specs.declared.outcome.Verdict.{Verdict}
use Rattle.simulator.specs.Run.{verdict_of}
use Rattle.judge.specs.declared.Cause.{Cause}
use Rattle.judge.specs.declared.Cause.TheVariants as cause

-- the number and line of each cause: those that build and run give it
unfoldable pub refusal_of : Cause → Refusal
refusal_of (cause.Graph c) = build.refusal_of c
refusal_of (cause.Trace c) = calls.refusal_of c

-- inputs are init, then the bits of the signals
unfoldable pub inputs_of : Graph → ℕ
inputs_of g = 1 + signal_bits g

-- what a judgement answers, and what it leaves
pub record JudgeEnd : Type 0 where
  pub answer : Result (Tally × Verdict) Cause
  pub verdicts : List ℕ

abbrev pub judge_end : Result (Tally × Verdict) Cause → List ℕ → JudgeEnd
judge_end r v = record { answer = r; verdicts = v }

-- the judgement of a trace by a graph, in document 01's order: the trace is too long, has a wrong line, or has more
-- cycles than there are bytes; else a byte for each cycle, 1 where some setting and some rejecting path condemn it and
-- 0 where there are none such, stands first in the buffer, which keeps its surplus
unfoldable pub trace_judged : Graph → Bytes → List ℕ → JudgeEnd
trace_judged g trace buffer =
    let fault = fault_of (inputs_of g) trace in
    let cycles = cycles_of (inputs_of g) trace in
    let judged = paths.verdicts g [] cycles in
    cond (not (is_short trace)) (judge_end (Err (cause.Trace TraceTooLong)) buffer)
    (cond (not (eqb fault 0)) (judge_end (Err (cause.Trace (WrongLine fault))) buffer)
    (cond (not (leb (length judged) (length buffer))) (judge_end (Err (cause.Trace ShortBuffer)) buffer)
    (judge_end (Ok (record { cycles = length cycles; rejected = count_rejected g cycles; checked = 0 }, verdict_of judged)) (judged ++ drop (length judged) buffer))))

-- the graph text before the trace: refused as build refuses it
unfoldable pub judge_as : Outcome → Bytes → List ℕ → JudgeEnd
judge_as (refused c) trace buffer = judge_end (Err (cause.Graph (GraphText c))) buffer
judge_as (accepted g) trace buffer =
    cond (leb (variables_of false g) 4095) (trace_judged g trace buffer) (judge_end (Err (cause.Graph TooManyVariables)) buffer)

unfoldable pub judge_of : Bytes → Bytes → List ℕ → JudgeEnd
judge_of text trace buffer = judge_as (graph_of text) trace buffer
