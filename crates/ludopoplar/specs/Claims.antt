-- What the contracts of the C interface claim. Assumes nothing.
use Rattle.std.specs.Prelude.{◌≡◌, ◌⊎◌, List, ℕ, ◌+◌, ◌*◌, ◌^◌, ◌≤◌, ◌<◌, ◌/◌, ◌%◌, length}
use Rattle.text.specs.declared.Refusal.{Refusal}
use Rattle.builder.specs.declared.Cause as builder
use Rattle.builder.specs.Build as build
use Rattle.aiger.specs.declared.Cause as aiger
use Rattle.aiger.specs.Write as write
use Rattle.aiger_file.specs.declared.Cause as aiger_file
use Rattle.aiger_file.specs.Read as read
use Rattle.calls.specs.declared.refusal.Cause as simulator
use Rattle.calls.specs.Refusals as runs
use Rattle.rate.specs.declared.Cause as rate
use Rattle.rate.specs.Rates as rates
use Rattle.rate.specs.Claims.{Division}
use Rattle.first_broken.specs.declared.refusal.Cause as broken
use Rattle.first_broken.specs.Refusals as sessions
use Rattle.first_broken.specs.Refusals.{Measurement}
use Rattle.first_broken.specs.Claims.{CheckMeans, BrokenFirst}
use Rattle.session_page.specs.declared.Cause as page
use Rattle.session_page.specs.LayOut as pages
use Rattle.session_page.specs.Claims.{LaysOut, GivenTells}
use Rattle.dearest_graph.specs.declared.Cause as dearest
use Rattle.dearest_graph.specs.Write as dearest_graph
use Rattle.buffer_graph.specs.declared.Cause as buffer
use Rattle.buffer_graph.specs.Write as buffer_graph
use Rattle.ludopoplar.specs.Codes.{code_of}
use Rattle.ludopoplar.specs.Rates.{RateCallEnd, rate_call_end}

-- ---- no refusal has the number 0, so a call's code is 0 exactly if it is accepted; and a code tells number and line
pub record Numbered : Type 0 where
  pub build_numbered : (cause : builder.Cause) → 1 ≤ (build.refusal_of cause).number
  pub write_numbered : (cause : aiger.Cause) → 1 ≤ (write.refusal_of cause).number
  pub read-numbered : (cause : aiger_file.Cause) → 1 ≤ (read.refusal_of cause).number
  pub run-numbered : (cause : simulator.Cause) → 1 ≤ (runs.refusal_of cause).number
  pub rate-numbered : (cause : rate.Cause) → 1 ≤ (rates.refusal_of cause).number
  pub check_numbered : (cause : broken.Cause) → 1 ≤ (sessions.refusal_of cause).number
  pub page-numbered : (cause : page.Cause) → 1 ≤ (pages.refusal_of cause).number
  pub dearest_numbered : (cause : dearest.Cause) → 1 ≤ (dearest_graph.refusal_of cause).number
  pub buffer-numbered : (cause : buffer.Cause) → 1 ≤ (buffer_graph.refusal_of cause).number
  -- 4,294,967,296 is 2^32
  pub number-told : (r : Refusal) → r.line < 4294967296 → code_of r / 4294967296 ≡ r.number
  pub line-told : (r : Refusal) → r.line < 4294967296 → code_of r % 4294967296 ≡ r.line

-- ---- document 02, No. 8, of a call that ended so, where whole and remainder stood behind its pointers before
pub record CallDivides (cycles rejected whole remainder : ℕ) (end : RateCallEnd) : Type 0 where
  -- "no cycles, or rejected above cycles, is 21, line 0"; the results stay as they were
  pub refused : (cycles ≡ 0) ⊎ (cycles < rejected) → end ≡ rate_call_end (21 * 2 ^ 32) whole remainder
  -- every other tally is accepted, and the results are those of the division
  pub accepted : 0 < cycles → rejected ≤ cycles → end.code ≡ 0
  pub division : 0 < cycles → rejected ≤ cycles → Division cycles rejected end.whole end.remainder

-- ---- document 02, No. 12: what check and find claim of their answers, of a check that returned this code
abbrev pub CallChecks : ℕ → Measurement → Measurement → ℕ → Type 0
CallChecks width flywheel handle code = CheckMeans width flywheel handle (λ cause number line. code ≡ number * 2 ^ 32 + line) (code ≡ 0)

-- and of a call that returned this code and left these results: the code is 0, and trace, place and length are told,
-- with 0 for the flywheel trace and 1 for the handle trace
abbrev pub CallFinds : ℕ → Measurement → Measurement → ℕ → ℕ → ℕ → ℕ → Type 0
CallFinds width flywheel handle code trace offset count =
    BrokenFirst width flywheel handle
    (λ at line. (code ≡ 0) × (trace ≡ 0) × (offset ≡ at) × (count ≡ length line))
    (λ at line. (code ≡ 0) × (trace ≡ 1) × (offset ≡ at) × (count ≡ length line))

-- ---- document 02, No. 9: what lay_out claims of its answer, of a call that found `before` in the lent buffer and `was`
-- behind its pointer, and left `after` and `length`
abbrev pub CallLays : List ℕ → List ℕ → List ℕ → List ℕ → ℕ → ℕ → ℕ → Type 0
CallLays name verdicts before after code was length =
    LaysOut name verdicts before after (λ cause number line. (code ≡ number * 2 ^ 32 + line) × (length ≡ was)) (λ n. (code ≡ 0) × (length ≡ n))

-- and of a call that gave a page of so many bytes
abbrev pub CallTells : List ℕ → List ℕ → List ℕ → ℕ → ℕ → Type 0
CallTells name verdicts after code length = GivenTells name verdicts after (λ n. (code ≡ 0) × (length ≡ n))
