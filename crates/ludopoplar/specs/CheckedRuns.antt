-- Document 02, No. 7: the calls that run a netlist with the tally's third number, through a pointer of its own, and with
-- both output words of a step. All else is as in the calls of document 01. Assumes nothing.
use Rattle.std.specs.Prelude.{Result, Ok, Err, List, ℕ}
use Rattle.calls.specs.declared.refusal.Cause.{Cause}
use Rattle.calls.specs.declared.tally.Tally.{Tally}
use Rattle.simulator.specs.Start.{start_of}
use Rattle.simulator.specs.Step.{step_of}
use Rattle.simulator.specs.Run.{run_of}
use Rattle.ludopoplar.specs.Runs.{start_code, step_code, word_after, run_code, verdict_after}

-- the tally of three numbers
abbrev pub tally_with : ℕ → ℕ → ℕ → Tally
tally_with cycles rejected checked = record { cycles = cycles; rejected = rejected; checked = checked }

-- ---- start
pub record StartCheckedEnd : Type 0 where
  pub code : ℕ
  pub latches : List ℕ
  pub tally : Tally

abbrev pub start_checked_end : ℕ → List ℕ → ℕ → ℕ → ℕ → StartCheckedEnd
start_checked_end c l y j k = record { code = c; latches = l; tally = tally_with y j k }

unfoldable pub start_checked_call : List ℕ → List ℕ → ℕ → ℕ → ℕ → StartCheckedEnd
start_checked_call net latches cycles rejected checked =
    let e = start_of net latches (tally_with cycles rejected checked) in
    record { code = start_code e.answer.outcome; latches = e.latches; tally = e.answer.tally }

-- ---- step: the results are the output words, the second 0 where there is one output
pub record StepCheckedEnd : Type 0 where
  pub code : ℕ
  pub latches : List ℕ
  pub values : List ℕ
  pub tally : Tally
  pub word : ℕ
  pub second : ℕ

abbrev pub step_checked_end : ℕ → List ℕ → List ℕ → ℕ → ℕ → ℕ → ℕ → ℕ → StepCheckedEnd
step_checked_end c l v y j k w s = record { code = c; latches = l; values = v; tally = tally_with y j k; word = w; second = s }

unfoldable pub second_after : Result (ℕ × ℕ) Cause → ℕ → ℕ
second_after (Ok (w, c)) before = c
second_after (Err cause) before = before

unfoldable pub step_checked_call : List ℕ → List ℕ → List ℕ → List ℕ → ℕ → ℕ → ℕ → ℕ → ℕ → StepCheckedEnd
step_checked_call net cycle latches values cycles rejected checked word second =
    let e = step_of net cycle latches values (tally_with cycles rejected checked) in
    let r = e.answer.outcome in
    record { code = step_code r; latches = e.latches; values = e.values; tally = e.answer.tally; word = word_after r word; second = second_after r second }

-- ---- run
pub record RunCheckedEnd : Type 0 where
  pub code : ℕ
  pub latches : List ℕ
  pub values : List ℕ
  pub verdicts : List ℕ
  pub tally : Tally
  pub verdict : ℕ

abbrev pub run_checked_end : ℕ → List ℕ → List ℕ → List ℕ → ℕ → ℕ → ℕ → ℕ → RunCheckedEnd
run_checked_end c l v b y j k d = record { code = c; latches = l; values = v; verdicts = b; tally = tally_with y j k; verdict = d }

unfoldable pub run_checked_call : List ℕ → List ℕ → List ℕ → List ℕ → List ℕ → ℕ → ℕ → ℕ → ℕ → RunCheckedEnd
run_checked_call net trace latches values verdicts cycles rejected checked verdict =
    let e = run_of net trace latches values verdicts (tally_with cycles rejected checked) in
    let r = e.answer.outcome in
    record { code = run_code r; latches = e.latches; values = e.values; verdicts = e.verdicts; tally = e.answer.tally; verdict = verdict_after r verdict }
