-- What the contract of judge claims of its answer and of the verdict buffer, without the tests of the definition. Assumes
-- nothing.
use Rattle.std.specs.Prelude.{Result, Ok, Err, ◌≡◌, false, List, [], ◌++◌, ℕ, suc, ◌+◌, ◌<◌, ◌≤◌, length, drop}
use Rattle.assertion.specs.Graph.{Bytes, Graph, signal_bits}
use Rattle.assertion.specs.Paths.{verdicts, count_rejected}
use Rattle.graph.specs.declared.Cause as graph
use Rattle.graph.specs.Reading as reading
use Rattle.graph.specs.Reading.{refused, accepted, graph_of}
use Rattle.builder.specs.declared.Cause.TheVariants.{GraphText, TooManyVariables}
use Rattle.builder.specs.Build.{variables_of}
use Rattle.trace.specs.Claims.{Cycles, lines_of, FirstWrong}
use Rattle.calls.specs.declared.refusal.Cause.TheVariants.{TraceTooLong, WrongLine, ShortBuffer}
use Rattle.calls.specs.declared.tally.Tally.{Tally}
use Rattle.simulator.specs.declared.outcome.Verdict.{Verdict}
use Rattle.demand.specs.Demand.{VerdictOfPaths}
use Rattle.judge.specs.declared.Cause.{Cause}
use Rattle.judge.specs.declared.Cause.TheVariants as cause
use Rattle.judge.specs.Judge.{refusal_of}

-- the text is that of this graph, whose circuit is not too large
pub record IsGraph (text : Bytes) (g : Graph) : Type 0 where
  pub read : graph_of text ≡ accepted g
  pub small : variables_of false g ≤ 4095

-- the trace is the lines of these cycles, each with init and the graph's signals, and not too long
pub record IsTrace (g : Graph) (trace : Bytes) (cycles : List Bytes) : Type 0 where
  pub short : length trace ≤ 1048576
  pub lines : trace ≡ lines_of cycles
  pub right : Cycles (1 + signal_bits g) cycles

-- WHAT A JUDGEMENT SAYS that found `before` in the verdict buffer and left `after`. Refuses cause number line: it refuses
-- so, for this cause. Gives cycles rejected verdict: it answers these.
pub data JudgeMeans (text trace before after : List ℕ) (Refuses : Cause → ℕ → ℕ → Type 0) (Gives : ℕ → ℕ → Verdict → Type 0) : Type 0 where
  -- no graph: refused as its reader refuses the text
  no_graph : (c : graph.Cause) → Refuses (cause.Graph (GraphText c)) (reading.refusal_of c).number (reading.refusal_of c).line → after ≡ before
      → graph_of text ≡ refused c
      → JudgeMeans text trace before after Refuses Gives
  too_large : (g : Graph) → Refuses (cause.Graph TooManyVariables) 11 0 → after ≡ before → graph_of text ≡ accepted g → 4095 < variables_of false g
      → JudgeMeans text trace before after Refuses Gives
  too_long : (g : Graph) → Refuses (cause.Trace TraceTooLong) 1 0 → after ≡ before → IsGraph text g → 1048576 < length trace
      → JudgeMeans text trace before after Refuses Gives
  -- the first wrong line, counted from 1
  wrong-line : (g : Graph) (k : ℕ) → Refuses (cause.Trace (WrongLine (suc k))) 15 (suc k) → after ≡ before → IsGraph text g
      → length trace ≤ 1048576 → FirstWrong (1 + signal_bits g) k trace
      → JudgeMeans text trace before after Refuses Gives
  short : (g : Graph) (cycles : List Bytes) → Refuses (cause.Trace ShortBuffer) 12 0 → after ≡ before → IsGraph text g → IsTrace g trace cycles
      → length before < length cycles
      → JudgeMeans text trace before after Refuses Gives
  -- a byte for each cycle, and the verdict, by settings and rejecting paths; the rest of the buffer is as it was
  judged : (g : Graph) (cycles : List Bytes) (verdict : Verdict) → Gives (length cycles) (count_rejected g cycles) verdict
      → after ≡ verdicts g [] cycles ++ drop (length cycles) before → IsGraph text g → IsTrace g trace cycles
      → length cycles ≤ length before → VerdictOfPaths g [] cycles verdict
      → JudgeMeans text trace before after Refuses Gives

-- what an answer of judge says of a cause, and the number and line in which that is reported
abbrev pub RefusedFor : Result (Tally × Verdict) Cause → Cause → ℕ → ℕ → Type 0
RefusedFor answer c number line = (answer ≡ Err c) × (refusal_of c ≡ record { number = number; line = line })

-- and of a tally and a verdict; the circuit has no second output
abbrev pub GivenAs : Result (Tally × Verdict) Cause → ℕ → ℕ → Verdict → Type 0
GivenAs answer cycles rejected verdict = answer ≡ Ok (record { cycles = cycles; rejected = rejected; checked = 0 }, verdict)
