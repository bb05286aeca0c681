-- What the private function does: the judgement of a run, by what start and run answer. Assumes nothing.
use Rattle.std.specs.Prelude.{Result, Ok, Err, List, ℕ, replicate}
use Rattle.calls.specs.declared.refusal.Cause as calls
use Rattle.calls.specs.declared.tally.Tally.{Tally}
use Rattle.simulator.specs.declared.outcome.Verdict.{Verdict}
use Rattle.calls.specs.Tallies.{cleared}
use Rattle.simulator.specs.Start.{start_of}
use Rattle.simulator.specs.Run.{RunEnd, run_of}
use Rattle.judge.specs.declared.Cause.{Cause}
use Rattle.judge.specs.declared.Cause.TheVariants.{Trace}
use Rattle.judge.specs.Judge.{JudgeEnd, judge_end}

-- the judgement of an outcome, with the tally that came with it
unfoldable pub outcome_judged : Result Verdict calls.Cause → Tally → Result (Tally × Verdict) Cause
outcome_judged (Ok verdict) t = Ok (t, verdict)
outcome_judged (Err cause) t = Err (Trace cause)

-- of a run's end
abbrev pub judged_run : RunEnd → JudgeEnd
judged_run e = judge_end (outcome_judged e.answer.outcome e.answer.tally) e.verdicts

-- a start, and a run over the trace: every netlist has room in these words
unfoldable pub machine_end : List ℕ → List ℕ → List ℕ → RunEnd
machine_end net trace bytes =
    let s = start_of net (replicate 4094 0) cleared in
    run_of net trace s.latches (replicate 4096 0) bytes s.answer.tally

unfoldable pub machine_judged : List ℕ → List ℕ → List ℕ → JudgeEnd
machine_judged net trace bytes = judged_run (machine_end net trace bytes)
