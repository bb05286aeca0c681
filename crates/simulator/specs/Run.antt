-- Run: the cycles of a trace, one after another. It writes one byte a cycle, 1 rejected or 0 accepted;
-- the value words hold the last cycle's values, or are untouched by an empty trace. Assumes nothing.
use Rattle.std.specs.Prelude.{Result, Ok, Err, cond, List, [], ◌∷◌, ◌++◌, ℕ, eqb, length, drop}
use Rattle.calls.specs.declared.refusal.Cause.{Cause}
use Rattle.netlist.specs.Layout.{input_count}
use Rattle.simulator.specs.declared.outcome.Verdict.{Verdict}
use Rattle.simulator.specs.declared.outcome.Verdict.TheVariants.{Accepted, Rejected}
use Rattle.simulator.specs.declared.outcome.Ran.{Ran}
use Rattle.calls.specs.declared.tally.Tally.{Tally}
use Rattle.calls.specs.Tallies.{is_rejected, counted}
use Rattle.trace.specs.Traces.{cycles_of}
use Rattle.calls.specs.Refusals.{run_check}
use Rattle.simulator.specs.Step.{output_word, word_checked, latches_after, values_after}

-- the byte of a cycle whose first output word is w: 1 rejected, 0 accepted
unfoldable pub verdict_byte : ℕ → ℕ
verdict_byte w = cond (is_rejected w) 1 0

-- document 02, No. 2: "a run's verdict is `rejected` exactly when any cycle of that run was"; of these
-- verdict bytes
unfoldable pub verdict_of : List ℕ → Verdict
verdict_of [] = Accepted
verdict_of (b ∷ bs) = cond (eqb b 0) (verdict_of bs) Rejected

-- what a run holds between two cycles, with the verdict bytes so far
pub record Running : Type 0 where
  pub latches : List ℕ
  pub values : List ℕ
  pub bytes : List ℕ
  pub tally : Tally

abbrev pub running : List ℕ → List ℕ → List ℕ → Tally → Running
running l v b t = record { latches = l; values = v; bytes = b; tally = t }

-- one cycle more
unfoldable pub run_cycle : List ℕ → List ℕ → Running → Running
run_cycle net cycle r =
    let w = output_word net cycle r.latches in
    running (latches_after net cycle r.latches) (values_after net cycle r.latches r.values) (r.bytes ++ (verdict_byte w ∷ []))
    (counted r.tally w (word_checked net cycle r.latches))

-- cycles one after another
unfoldable pub run_cycles : List ℕ → Running → List (List ℕ) → Running
run_cycles net r [] = r
run_cycles net r (c ∷ cs) = run_cycles net (run_cycle net c r) cs

-- what a run answers, and what it leaves
pub record RunEnd : Type 0 where
  pub answer : Ran
  pub latches : List ℕ
  pub values : List ℕ
  pub verdicts : List ℕ

abbrev pub run_end : Ran → List ℕ → List ℕ → List ℕ → RunEnd
run_end r l v b = record { answer = r; latches = l; values = v; verdicts = b }

-- a run that has come to its end: its bytes stand first in the verdict buffer, which keeps its surplus
unfoldable pub ran_to : Running → List ℕ → RunEnd
ran_to r verdicts =
    run_end (record { outcome = Ok (verdict_of r.bytes); tally = r.tally }) r.latches r.values
    (r.bytes ++ drop (length r.bytes) verdicts)

unfoldable pub run_as : Result Unit Cause → List ℕ → List ℕ → List ℕ → List ℕ → List ℕ → Tally → RunEnd
run_as (Ok tt) net trace latches values verdicts t =
    ran_to (run_cycles net (running latches values [] t) (cycles_of (input_count net) trace)) verdicts
run_as (Err cause) net trace latches values verdicts t =
    run_end (record { outcome = Err cause; tally = t }) latches values verdicts

unfoldable pub run_of : List ℕ → List ℕ → List ℕ → List ℕ → List ℕ → Tally → RunEnd
run_of net trace latches values verdicts t =
    run_as (run_check net trace (length latches) (length values) (length verdicts) t) net trace latches values verdicts t
