-- The calls that run a netlist: the return code, the buffers, the tally through its two pointers, and the result
-- through its own, which a refusal leaves as it was. Answer, tally and buffers are those of the call's own
-- definition, which hands the tally back as it was where it refuses. These are the names of document 01: the tally
-- has no third number for them; one of 0 is lent, and dropped. Assumes nothing.
use Rattle.std.specs.Prelude.{Result, Ok, Err, List, ℕ}
use Rattle.calls.specs.declared.refusal.Cause.{Cause}
use Rattle.calls.specs.declared.tally.Tally.{Tally}
use Rattle.simulator.specs.declared.outcome.Verdict.{Verdict}
use Rattle.simulator.specs.declared.outcome.Verdict.TheVariants.{Accepted, Rejected}
use Rattle.calls.specs.Refusals.{refusal_of}
use Rattle.simulator.specs.Start.{start_of}
use Rattle.simulator.specs.Step.{step_of}
use Rattle.simulator.specs.Run.{run_of}
use Rattle.ludopoplar.specs.Codes.{accepted_code, code_of}

-- the tally of two numbers
abbrev pub tally_of : ℕ → ℕ → Tally
tally_of cycles rejected = record { cycles = cycles; rejected = rejected; checked = 0 }

-- ---- start
pub record StartCallEnd : Type 0 where
  pub code : ℕ
  pub latches : List ℕ
  pub cycles : ℕ
  pub rejected : ℕ

abbrev pub start_call_end : ℕ → List ℕ → ℕ → ℕ → StartCallEnd
start_call_end c l y j = record { code = c; latches = l; cycles = y; rejected = j }

unfoldable pub start_code : Result Unit Cause → ℕ
start_code (Ok tt) = accepted_code
start_code (Err cause) = code_of (refusal_of cause)

unfoldable pub start_call : List ℕ → List ℕ → ℕ → ℕ → StartCallEnd
start_call net latches cycles rejected =
    let e = start_of net latches (tally_of cycles rejected) in
    start_call_end (start_code e.answer.outcome) e.latches e.answer.tally.cycles e.answer.tally.rejected

-- ---- step: the result is the first output word
pub record StepCallEnd : Type 0 where
  pub code : ℕ
  pub latches : List ℕ
  pub values : List ℕ
  pub cycles : ℕ
  pub rejected : ℕ
  pub word : ℕ

abbrev pub step_call_end : ℕ → List ℕ → List ℕ → ℕ → ℕ → ℕ → StepCallEnd
step_call_end c l v y j w = record { code = c; latches = l; values = v; cycles = y; rejected = j; word = w }

unfoldable pub step_code : Result (ℕ × ℕ) Cause → ℕ
step_code (Ok (w, c)) = accepted_code
step_code (Err cause) = code_of (refusal_of cause)

unfoldable pub word_after : Result (ℕ × ℕ) Cause → ℕ → ℕ
word_after (Ok (w, c)) before = w
word_after (Err cause) before = before

unfoldable pub step_call : List ℕ → List ℕ → List ℕ → List ℕ → ℕ → ℕ → ℕ → StepCallEnd
step_call net cycle latches values cycles rejected word =
    let e = step_of net cycle latches values (tally_of cycles rejected) in
    step_call_end (step_code e.answer.outcome) e.latches e.values e.answer.tally.cycles e.answer.tally.rejected
    (word_after e.answer.outcome word)

-- ---- run: the result is the verdict, 0 accepted, 1 rejected
pub record RunCallEnd : Type 0 where
  pub code : ℕ
  pub latches : List ℕ
  pub values : List ℕ
  pub verdicts : List ℕ
  pub cycles : ℕ
  pub rejected : ℕ
  pub verdict : ℕ

abbrev pub run_call_end : ℕ → List ℕ → List ℕ → List ℕ → ℕ → ℕ → ℕ → RunCallEnd
run_call_end c l v b y j d = record { code = c; latches = l; values = v; verdicts = b; cycles = y; rejected = j; verdict = d }

unfoldable pub verdict_number : Verdict → ℕ
verdict_number Accepted = 0
verdict_number Rejected = 1

unfoldable pub run_code : Result Verdict Cause → ℕ
run_code (Ok verdict) = accepted_code
run_code (Err cause) = code_of (refusal_of cause)

unfoldable pub verdict_after : Result Verdict Cause → ℕ → ℕ
verdict_after (Ok verdict) before = verdict_number verdict
verdict_after (Err cause) before = before

unfoldable pub run_call : List ℕ → List ℕ → List ℕ → List ℕ → List ℕ → ℕ → ℕ → ℕ → RunCallEnd
run_call net trace latches values verdicts cycles rejected verdict =
    let e = run_of net trace latches values verdicts (tally_of cycles rejected) in
    run_call_end (run_code e.answer.outcome) e.latches e.values e.verdicts e.answer.tally.cycles e.answer.tally.rejected
    (verdict_after e.answer.outcome verdict)
