-- A turn: the next machine in the round that has a cycle waiting is stepped with its oldest. Assumes nothing.
use Rattle.std.specs.Prelude.{Option, Some, None, Result, Ok, Err, Bool, true, false, List, ℕ, ◌-◌, take}
use Rattle.calls.specs.declared.refusal.Cause.{Cause as CallCause}
use Rattle.bench_turns.specs.declared.Cause.{Cause}
use Rattle.netlist.specs.Layout.{input_count}
use Rattle.assertion.specs.Graph.{Cycle}
use Rattle.simulator.specs.Step.{StepEnd, step_of}
use Rattle.bench_turns.specs.Parts.{part_of, with_part, shifted}
use Rattle.bench_turns.specs.Numbers.{waiting_of, tally_of, with_waiting, with_tally, with_last}
use Rattle.bench_turns.specs.Refusals.{next_machine, is_idle, turn_check}

-- what it answers, and what it leaves
pub record TurnEnd : Type 0 where
  pub answer : Result (Option (ℕ × ℕ × ℕ)) Cause
  pub latches : List ℕ
  pub values : List ℕ
  pub queues : List ℕ
  pub bench : List ℕ

abbrev pub turn_end : Result (Option (ℕ × ℕ × ℕ)) Cause → List ℕ → List ℕ → List ℕ → List ℕ → TurnEnd
turn_end r l v q b = record { answer = r; latches = l; values = v; queues = q; bench = b }

-- the oldest cycle that waits for machine k
unfoldable pub oldest : ℕ → List ℕ → List ℕ → Cycle
oldest k nets queues = take (input_count (part_of k nets)) (part_of k queues)

-- the output words that a step answered
unfoldable pub first_word : Result (ℕ × ℕ) CallCause → ℕ
first_word (Ok (w, c)) = w
first_word (Err cause) = 0

unfoldable pub second_word : Result (ℕ × ℕ) CallCause → ℕ
second_word (Ok (w, c)) = c
second_word (Err cause) = 0

-- machine k's step, with its own netlist, latch words and tally
unfoldable pub step_for : ℕ → List ℕ → List ℕ → List ℕ → List ℕ → List ℕ → StepEnd
step_for k nets latches values queues bench = step_of (part_of k nets) (oldest k nets queues) (part_of k latches) values (tally_of k bench)

-- a served cycle frees its place
unfoldable pub serve : ℕ → List ℕ → List ℕ → List ℕ → List ℕ → List ℕ → TurnEnd
serve k nets latches values queues bench =
    let n = waiting_of k bench - 1 in
    let e = step_for k nets latches values queues bench in
    turn_end (Ok (Some (k, first_word e.answer.outcome, second_word e.answer.outcome)))
    (with_part k e.latches latches)
    e.values
    (with_part k (shifted n (part_of k queues)) queues)
    (with_last k (with_tally k e.answer.tally (with_waiting k n bench)))

unfoldable pub turn_as : Result Unit Cause → Bool → List ℕ → List ℕ → List ℕ → List ℕ → List ℕ → TurnEnd
turn_as (Ok tt) true nets latches values queues bench = turn_end (Ok None) latches values queues bench
turn_as (Ok tt) false nets latches values queues bench = serve (next_machine bench) nets latches values queues bench
turn_as (Err cause) idle nets latches values queues bench = turn_end (Err cause) latches values queues bench

unfoldable pub turn_of : List ℕ → List ℕ → List ℕ → List ℕ → List ℕ → TurnEnd
turn_of nets latches values queues bench =
    turn_as (turn_check nets latches values queues bench) (is_idle bench) nets latches values queues bench
