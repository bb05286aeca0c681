-- A new cycle for a machine: it waits behind those that came before it. Assumes nothing.
use Rattle.std.specs.Prelude.{Result, Ok, Err, List, ℕ, ◌+◌}
use Rattle.bench_turns.specs.declared.Cause.{Cause}
use Rattle.assertion.specs.Graph.{Cycle}
use Rattle.bench_turns.specs.Parts.{part_of, with_part, placed}
use Rattle.bench_turns.specs.Numbers.{waiting_of, with_waiting}
use Rattle.bench_turns.specs.Refusals.{add_check}

-- what it answers, and what it leaves
pub record AddEnd : Type 0 where
  pub answer : Result Unit Cause
  pub queues : List ℕ
  pub bench : List ℕ

abbrev pub add_end : Result Unit Cause → List ℕ → List ℕ → AddEnd
add_end r q b = record { answer = r; queues = q; bench = b }

unfoldable pub add_as : Result Unit Cause → List ℕ → List ℕ → ℕ → Cycle → AddEnd
add_as (Ok tt) queues bench k cycle =
    let n = waiting_of k bench in
    add_end (Ok tt) (with_part k (placed n cycle (part_of k queues)) queues) (with_waiting k (n + 1) bench)
add_as (Err cause) queues bench k cycle = add_end (Err cause) queues bench

unfoldable pub add_of : List ℕ → List ℕ → List ℕ → List ℕ → ℕ → Cycle → AddEnd
add_of nets latches queues bench k cycle = add_as (add_check nets latches queues bench k cycle) queues bench k cycle
