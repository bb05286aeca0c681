-- Calls of the bench, one after another, each lent what the one before left; the netlists stay. Assumes nothing.
use Rattle.std.specs.Prelude.{Option, Some, None, Result, Ok, Err, cond, List, [], ◌∷◌, ◌++◌, ℕ, ◌+◌, eqb}
use Rattle.bench_turns.specs.declared.Cause.{Cause}
use Rattle.netlist.specs.Layout.{input_count}
use Rattle.assertion.specs.Graph.{Cycle}
use Rattle.bench_turns.specs.Parts.{part_of, cycles_in}
use Rattle.bench_turns.specs.Numbers.{waiting_of}
use Rattle.bench_turns.specs.Add.{AddEnd, add_of}
use Rattle.bench_turns.specs.Turn.{TurnEnd, oldest, turn_of}

-- a new cycle for a machine, or a turn with its value buffer
pub data Call : Type 0 where
  add_call : (machine : ℕ) (cycle : Cycle) → Call
  turn_call : (values : List ℕ) → Call

-- what the bench keeps from call to call
pub record Bench : Type 0 where
  pub latches : List ℕ
  pub queues : List ℕ
  pub numbers : List ℕ

abbrev pub bench_of : List ℕ → List ℕ → List ℕ → Bench
bench_of latches queues numbers = record { latches = latches; queues = queues; numbers = numbers }

-- the cycles that wait for machine k, oldest first
unfoldable pub queue_of : List ℕ → ℕ → Bench → List Cycle
queue_of nets k b = cycles_in (input_count (part_of k nets)) (waiting_of k b.numbers) (part_of k b.queues)

-- ---- a call, and a list of calls
abbrev pub add_on : List ℕ → Bench → ℕ → Cycle → AddEnd
add_on nets b k cycle = add_of nets b.latches b.queues b.numbers k cycle

abbrev pub turn_on : List ℕ → Bench → List ℕ → TurnEnd
turn_on nets b values = turn_of nets b.latches values b.queues b.numbers

unfoldable pub after : List ℕ → Bench → Call → Bench
after nets b (add_call k cycle) = let e = add_on nets b k cycle in bench_of b.latches e.queues e.bench
after nets b (turn_call values) = let e = turn_on nets b values in bench_of e.latches e.queues e.bench

unfoldable pub after_all : List ℕ → Bench → List Call → Bench
after_all nets b [] = b
after_all nets b (x ∷ xs) = after_all nets (after nets b x) xs

-- ---- what they bring machine k: its accepted new cycles, in order
unfoldable pub arrived_as : Result Unit Cause → ℕ → ℕ → Cycle → List Cycle
arrived_as (Ok tt) machine k cycle = cond (eqb machine k) (cycle ∷ []) []
arrived_as (Err cause) machine k cycle = []

unfoldable pub arrived_by : List ℕ → ℕ → Bench → Call → List Cycle
arrived_by nets k b (add_call machine cycle) = arrived_as (add_on nets b machine cycle).answer machine k cycle
arrived_by nets k b (turn_call values) = []

unfoldable pub arrived : List ℕ → ℕ → Bench → List Call → List Cycle
arrived nets k b [] = []
arrived nets k b (x ∷ xs) = arrived_by nets k b x ++ arrived nets k (after nets b x) xs

-- its served cycles, in order: the oldest that waited, at each turn that answers its number
unfoldable pub served_as : Result (Option (ℕ × ℕ × ℕ)) Cause → ℕ → Cycle → List Cycle
served_as (Ok None) k cycle = []
served_as (Ok (Some (machine, word, checked))) k cycle = cond (eqb machine k) (cycle ∷ []) []
served_as (Err cause) k cycle = []

unfoldable pub served_by : List ℕ → ℕ → Bench → Call → List Cycle
served_by nets k b (add_call machine cycle) = []
served_by nets k b (turn_call values) = served_as (turn_on nets b values).answer k (oldest k nets b.queues)

unfoldable pub served : List ℕ → ℕ → Bench → List Call → List Cycle
served nets k b [] = []
served nets k b (x ∷ xs) = served_by nets k b x ++ served nets k (after nets b x) xs

-- ---- how many of the calls are accepted turns, idle ones among them
unfoldable pub accepted_as : Result (Option (ℕ × ℕ × ℕ)) Cause → ℕ
accepted_as (Ok None) = 1
accepted_as (Ok (Some (machine, word, checked))) = 1
accepted_as (Err cause) = 0

unfoldable pub accepted_by : List ℕ → Bench → Call → ℕ
accepted_by nets b (add_call machine cycle) = 0
accepted_by nets b (turn_call values) = accepted_as (turn_on nets b values).answer

unfoldable pub accepted_turns : List ℕ → Bench → List Call → ℕ
accepted_turns nets b [] = 0
accepted_turns nets b (x ∷ xs) = accepted_by nets b x + accepted_turns nets (after nets b x) xs
