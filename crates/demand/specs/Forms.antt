-- A call of start, step or run may lend the tally or pass it by value: both forms promise the same
-- equation, the tally at exit being that of the answer, and whatever keeps that equation is the call that
-- demand 3 speaks of. Assumes nothing.
use Rattle.std.specs.Prelude.{Result, ◌≡◌, List, [], ℕ}
use Rattle.calls.specs.declared.refusal.Cause.{Cause}
use Rattle.simulator.specs.declared.outcome.Verdict.{Verdict}
use Rattle.netlist.specs.Layout.{input_count}
use Rattle.calls.specs.declared.tally.Tally.{Tally}
use Rattle.simulator.specs.Start.{start_end, start_of}
use Rattle.simulator.specs.Step.{step_end, step_of}
use Rattle.simulator.specs.Run.{run_end, run_of}
use Rattle.demand.specs.Calls.{step_call, run_call, Kept, stepped, ran, Called, called, step_gives, run_gives}
use Rattle.demand.specs.Demand.{kept_by}

abbrev pub kept : List ℕ → Tally → Kept
kept latches t = record { latches = latches; tally = t }

-- with outcome r, and tally, latch words, value words and verdict bytes at exit t', l', v' and b'
pub record EitherForm : Type 0 where
  pub starts : (net latches l' : List ℕ) (t t' : Tally) (r : Result Unit Cause)
      → start_end (record { outcome = r; tally = t' }) l' ≡ start_of net latches t
      → kept_by (start_of net latches t) ≡ kept l' t'
  pub steps : (net cycle latches values l' v' : List ℕ) (t t' : Tally) (r : Result (ℕ × ℕ) Cause)
      → step_end (record { outcome = r; tally = t' }) l' v' ≡ step_of net cycle latches values t
      → called net (kept latches t) (step_call cycle values) ≡ record { kept = kept l' t'; answer = stepped r; cycles = step_gives r cycle; verdicts = [] }
  pub runs : (net trace latches values bytes l' v' b' : List ℕ) (t t' : Tally) (r : Result Verdict Cause)
      → run_end (record { outcome = r; tally = t' }) l' v' b' ≡ run_of net trace latches values bytes t
      → called net (kept latches t) (run_call trace values bytes)
      ≡ record { kept = kept l' t'; answer = ran r; cycles = run_gives r (input_count net) trace; verdicts = b' }
