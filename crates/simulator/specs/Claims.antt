-- What the contracts of start, step and run claim of their definitions. Assumes nothing.
use Rattle.std.specs.Prelude.{Result, Err, Ok, ◌≡◌, Bool, true, false, List, [], ◌∷◌, ◌++◌, map, ℕ, suc, ◌+◌, ◌-◌, ◌/◌, ◌^◌, ◌<◌, length, get_or, take, drop}
use Rattle.netlist.specs.Layout.{maximum, input_count, latch_count, output_count, next_at, reset_at, output_at}
use Rattle.netlist.specs.Lanes.{lane, word_of}
use Rattle.netlist.specs.Meaning.{bools, words, bit_of, lit_of}
use Rattle.netlist.specs.Aiger.{Satisfies}
use Rattle.netlist.specs.Valid.{is_free, free_count}
use Rattle.calls.specs.declared.refusal.Cause.{Cause}
use Rattle.calls.specs.declared.refusal.Cause.TheVariants.{WrongLine, FullTally}
use Rattle.simulator.specs.declared.outcome.Verdict.{Verdict}
use Rattle.simulator.specs.declared.outcome.Verdict.TheVariants.{Rejected}
use Rattle.calls.specs.declared.tally.Tally.{Tally}
use Rattle.calls.specs.Tallies.{CycleMore, Fits}
use Rattle.trace.specs.Traces.{cycles_of}
use Rattle.trace.specs.Claims.{FirstWrong, TraceMeans}
use Rattle.calls.specs.Refusals.{refusal_of, start_check, step_check, run_check}
use Rattle.calls.specs.Claims.{StartTested, StepTested, RunTested}
use Rattle.simulator.specs.Start.{start_end, start_of}
use Rattle.simulator.specs.Step.{StepEnd, step_end, step_of}
use Rattle.simulator.specs.Run.{Running, running, verdict_byte, verdict_of, RunEnd, run_end, run_of}

-- ---- start: what lane n of latch k's word is after a start that is not refused
pub record LaneOfStart (n k : ℕ) (net : List ℕ) (word : ℕ) : Type 0 where
  -- reset 0 starts as 0, reset 1 as 1
  pub zeros : get_or net (reset_at k) 0 ≡ 0 → lane n word ≡ false
  pub ones : get_or net (reset_at k) 0 ≡ 1 → lane n word ≡ true
  -- an uninitialised latch, the j-th from 0, starts as bit j of n
  pub free : is_free net k ≡ true → lane n word ≡ lane (free_count net k) n

abbrev pub StartMeans : List ℕ → List ℕ → Tally → Type 0
StartMeans net latches t =
    start_check net (length latches) ≡ Ok tt → (n : ℕ) → n < 64 → (k : ℕ) → k < latch_count net
    → LaneOfStart n k net (get_or (start_of net latches t).latches k 0)

-- document 02, No. 4: "compute word j as the inverse of (2^64 − 1) ÷ (2^(2^j) + 1)"
abbrev pub free_word : ℕ → ℕ
free_word j = words.invert ((2 ^ 64 - 1) / (2 ^ (2 ^ j) + 1))

pub record WordsOfStart (net latches : List ℕ) (t : Tally) : Type 0 where
  -- for j below 6 that is the word whose lane n is bit j of n
  pub lanes : (j : ℕ) → j < 6 → free_word j ≡ word_of (λ n. lane j n)
  -- a start that is not refused leaves it in the j-th uninitialised latch, j from 0, and j is below 6
  pub free : start_check net (length latches) ≡ Ok tt → (k : ℕ) → k < latch_count net → is_free net k ≡ true
      → (free_count net k < 6) × (get_or (start_of net latches t).latches k 0 ≡ free_word (free_count net k))
  -- it clears all three numbers of the tally; a refused one changes nothing
  pub clears : start_check net (length latches) ≡ Ok tt → (start_of net latches t).answer.tally ≡ record { cycles = 0; rejected = 0; checked = 0 }
  pub kept : (cause : Cause) → (start_of net latches t).answer.outcome ≡ Err cause
      → start_of net latches t ≡ start_end (record { outcome = Err cause; tally = t }) latches
  -- the words behind the latches stay; and a start that answers Ok passed its tests, so the above speaks of it
  pub surplus : (start_of net latches t).answer.outcome ≡ Ok tt → drop (latch_count net) (start_of net latches t).latches ≡ drop (latch_count net) latches
  pub passed : (start_of net latches t).answer.outcome ≡ Ok tt → start_check net (length latches) ≡ Ok tt
  -- which starts are refused, and for what
  pub tests : StartTested net (length latches) ((start_of net latches t).answer.outcome ≡ Ok tt) (λ cause number line. ((start_of net latches t).answer.outcome ≡ Err cause) × (refusal_of cause ≡ record { number = number; line = line }))

-- ---- step: what lane n of a step that is not refused shows
-- lane n of the latches before it, and of the values that it leaves
abbrev pub lane_held : ℕ → List ℕ → List ℕ → List Bool
lane_held n net latches = map (lane n) (take (latch_count net) latches)

abbrev pub lane_seen : ℕ → List ℕ → StepEnd → List Bool
lane_seen n net end = map (lane n) (take (maximum net + 1) end.values)

pub record LaneOfStep (n : ℕ) (net cycle latches : List ℕ) (end : StepEnd) : Type 0 where
  -- the values satisfy AIGER's equations for the cycle's inputs and the latches before, and no others do
  pub values : Satisfies net (map (bit_of bools) cycle) (lane_held n net latches) (lane_seen n net end)
  pub only : (v : List Bool) → Satisfies net (map (bit_of bools) cycle) (lane_held n net latches) v → v ≡ lane_seen n net end
  -- each latch takes the value of its next literal, all of them under these values
  pub next : (k : ℕ) → k < latch_count net → lane n (get_or end.latches k 0) ≡ lit_of bools (lane_seen n net end) (get_or net (next_at k) 0)
  -- and the words that are answered have the values of the output literals
  pub word : ℕ
  pub second : ℕ
  pub answered : end.answer.outcome ≡ Ok (word, second)
  pub output : lane n word ≡ lit_of bools (lane_seen n net end) (get_or net (output_at net 0) 0)
  pub checked : output_count net ≡ 2 → lane n second ≡ lit_of bools (lane_seen n net end) (get_or net (output_at net 1) 0)

abbrev pub StepMeans : List ℕ → List ℕ → List ℕ → List ℕ → Tally → Type 0
StepMeans net cycle latches values t =
    step_check net cycle (length latches) (length values) t ≡ Ok tt → (n : ℕ) → n < 64
    → LaneOfStep n net cycle latches (step_of net cycle latches values t)

-- ---- step: what it adds to the tally, when that is full, what else it is refused for, and that a refusal changes nothing
pub record StepCounts (net cycle latches values : List ℕ) (t : Tally) (end : StepEnd) : Type 0 where
  -- an accepted step counts its cycle by the words that it answers
  pub counts : (w c : ℕ) → end.answer.outcome ≡ Ok (w, c) → CycleMore t w c end.answer.tally
  -- "the second 0 when O = 1", and "with O = 1 the third number does not move"
  pub one-output : (w c : ℕ) → end.answer.outcome ≡ Ok (w, c) → output_count net ≡ 1 → (c ≡ 0) × (end.answer.tally.checked ≡ t.checked)
  -- the words behind the latches and the values stay; and a step that answers words passed its tests, so `StepMeans`
  -- speaks of it
  pub surplus : (w c : ℕ) → end.answer.outcome ≡ Ok (w, c)
      → (drop (latch_count net) end.latches ≡ drop (latch_count net) latches) × (drop (maximum net + 1) end.values ≡ drop (maximum net + 1) values)
  pub passed : (w c : ℕ) → end.answer.outcome ≡ Ok (w, c) → step_check net cycle (length latches) (length values) t ≡ Ok tt
  -- 17 guards all three numbers, with one output too
  pub guarded : (w c : ℕ) → end.answer.outcome ≡ Ok (w, c) → Fits t 1
  pub full : end.answer.outcome ≡ Err FullTally → Fits t 1 → ⊥
  pub tests : StepTested net cycle (length latches) (length values) t ((w : ℕ) × (c : ℕ) × (end.answer.outcome ≡ Ok (w, c))) (λ cause number line. (end.answer.outcome ≡ Err cause) × (refusal_of cause ≡ record { number = number; line = line }))
  pub kept : (cause : Cause) → end.answer.outcome ≡ Err cause → end ≡ step_end (record { outcome = Err cause; tally = t }) latches values

-- ---- run: what its trace is, and what it is refused for
pub record TraceOfRun (net trace latches values verdicts : List ℕ) (t : Tally) : Type 0 where
  -- the trace is the lines of its cycles, or a line of it is wrong
  pub means : TraceMeans (input_count net) trace
  -- which runs are refused, and for what: a trace over 1,048,576 bytes whatever else was lent, a wrong line before the
  -- buffers and the tally are looked at
  pub tests : RunTested net trace (length latches) (length values) (length verdicts) t ((v : Verdict) × ((run_of net trace latches values verdicts t).answer.outcome ≡ Ok v))
      (λ cause number line. ((run_of net trace latches values verdicts t).answer.outcome ≡ Err cause) × (refusal_of cause ≡ record { number = number; line = line }))
  -- a run with a verdict passed its tests, so `RunIsSteps` and `VerdictMeans` speak of it
  pub passed : (v : Verdict) → (run_of net trace latches values verdicts t).answer.outcome ≡ Ok v
      → run_check net trace (length latches) (length values) (length verdicts) t ≡ Ok tt
  -- a refusal that tells a line, from 1, tells the first wrong one
  pub line : (k : ℕ) → (run_of net trace latches values verdicts t).answer.outcome ≡ Err (WrongLine k)
      → (j : ℕ) × (k ≡ suc j) × FirstWrong (input_count net) j trace
  -- the lines of an accepted run fit each of the tally's three numbers, with one output too; those of one refused 17 do not
  pub guarded : (v : Verdict) → (run_of net trace latches values verdicts t).answer.outcome ≡ Ok v → Fits t (length (cycles_of (input_count net) trace))
  pub full : (run_of net trace latches values verdicts t).answer.outcome ≡ Err FullTally → Fits t (length (cycles_of (input_count net) trace)) → ⊥
  -- a refusal, whatever its cause, changes nothing
  pub kept : (cause : Cause) → (run_of net trace latches values verdicts t).answer.outcome ≡ Err cause
      → run_of net trace latches values verdicts t ≡ run_end (record { outcome = Err cause; tally = t }) latches values verdicts

-- ---- run: a run that is not refused is its steps, one after another
-- what steps come to: what a run holds after them, or a refusal
pub data Steps : Type 0 where
  went : Running → Steps
  refused_at : Cause → Steps

-- after a step that ended so, where the run had these bytes
unfoldable pub after_step : Result (ℕ × ℕ) Cause → StepEnd → List ℕ → Steps
after_step (Ok (w, c)) e bytes = went (running e.latches e.values (bytes ++ (verdict_byte w ∷ [])) e.answer.tally)
after_step (Err cause) e bytes = refused_at cause

-- one step more, unless one was refused
unfoldable pub one_more : List ℕ → List ℕ → Steps → Steps
one_more net c (went r) = let e = step_of net c r.latches r.values r.tally in after_step e.answer.outcome e r.bytes
one_more net c (refused_at cause) = refused_at cause

-- one for each cycle
unfoldable pub steps : List ℕ → Steps → List (List ℕ) → Steps
steps net s [] = s
steps net s (c ∷ cs) = steps net (one_more net c s) cs

-- no step is refused, and the run answers and leaves what the last one comes to
pub record StepsOfRun (net trace latches values verdicts : List ℕ) (t : Tally) : Type 0 where
  pub last : Running
  pub stepped : steps net (went (running latches values [] t)) (cycles_of (input_count net) trace) ≡ went last
  pub ended : run_of net trace latches values verdicts t
      ≡ run_end (record { outcome = Ok (verdict_of last.bytes); tally = last.tally }) last.latches last.values (last.bytes ++ drop (length last.bytes) verdicts)

abbrev pub RunIsSteps : List ℕ → List ℕ → List ℕ → List ℕ → List ℕ → Tally → Type 0
RunIsSteps net trace latches values verdicts t =
    run_check net trace (length latches) (length values) (length verdicts) t ≡ Ok tt → StepsOfRun net trace latches values verdicts t

-- ---- run: document 02, No. 2: "a run's verdict is `rejected` exactly when any cycle of that run was"
-- of a run that ended so, after so many cycles
pub record VerdictOfRun (cycles : ℕ) (end : RunEnd) : Type 0 where
  pub verdict : Verdict
  pub answered : end.answer.outcome ≡ Ok verdict
  -- it is rejected only if some cycle has the byte 1, and if any has it
  pub some : verdict ≡ Rejected → (k : ℕ) × (k < cycles) × (get_or end.verdicts k 0 ≡ 1)
  pub any : (k : ℕ) → k < cycles → get_or end.verdicts k 0 ≡ 1 → verdict ≡ Rejected

-- of a run that ended so and is not refused
abbrev pub VerdictMeans : List ℕ → List ℕ → List ℕ → List ℕ → List ℕ → Tally → RunEnd → Type 0
VerdictMeans net trace latches values verdicts t end =
    run_check net trace (length latches) (length values) (length verdicts) t ≡ Ok tt → VerdictOfRun (length (cycles_of (input_count net) trace)) end
