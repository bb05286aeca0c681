-- When a new cycle and a turn are refused, and by which number and line of the table. The first test that fails
-- decides. Assumes nothing.
use Rattle.std.specs.Prelude.{Result, Ok, Err, Bool, cond, not, ◌&&◌, List, ℕ, zero, suc, ◌+◌, ◌*◌, ◌%◌, eqb, leb, length}
use Rattle.text.specs.declared.Refusal.{Refusal}
use Rattle.netlist.specs.Layout.{input_count}
use Rattle.assertion.specs.Graph.{Cycle}
use Rattle.trace.specs.Traces.{is_cycle}
use Rattle.calls.specs.Tallies.{has_room}
use Rattle.calls.specs.Refusals.{has_latches, has_values}
use Rattle.bench_turns.specs.Parts.{part_of}
use Rattle.calls.specs.declared.refusal.Cause.{Cause as CallCause}
use Rattle.calls.specs.declared.refusal.Cause.TheVariants as call
use Rattle.bench_turns.specs.declared.Cause.{Cause}
use Rattle.bench_turns.specs.declared.Cause.TheVariants.{NoMachine, NotBench, FullQueue, WrongCycle, ShortBuffer, FullTally}
use Rattle.bench_turns.specs.Numbers.{waiting_of, tally_of, last_of, waits, is_bench}

-- the number and line of each cause; a cycle is line 1
unfoldable pub refusal_of : Cause → Refusal
refusal_of NoMachine = record { number = 27; line = 0 }
refusal_of NotBench = record { number = 16; line = 0 }
refusal_of FullQueue = record { number = 28; line = 0 }
refusal_of WrongCycle = record { number = 15; line = 1 }
refusal_of ShortBuffer = record { number = 12; line = 0 }
refusal_of FullTally = record { number = 17; line = 0 }

-- why a turn is refused whose machine's step is; on a bench no other cause is left
unfoldable pub cause_of : CallCause → Cause
cause_of call.TraceTooLong = NotBench
cause_of call.ShortBuffer = ShortBuffer
cause_of (call.WrongLine line) = NotBench
cause_of call.NotNetlist = NotBench
cause_of call.FullTally = FullTally

-- ---- a new cycle, for machine k
-- a whole slot is left behind those that wait
unfoldable pub has_slot : ℕ → List ℕ → List ℕ → Bool
has_slot k queues bench = leb (64 * (waiting_of k bench + 1)) (length (part_of k queues))

unfoldable pub add_check : List ℕ → List ℕ → List ℕ → List ℕ → ℕ → Cycle → Result Unit Cause
add_check nets latches queues bench k cycle =
    let net = part_of k nets in
    cond (not (leb k 7)) (Err NoMachine)
    (cond (not (is_bench nets queues bench)) (Err NotBench)
    (cond (not (leb (waiting_of k bench + 1) 16)) (Err FullQueue)
    (cond (not (is_cycle (input_count net) cycle)) (Err WrongCycle)
    (cond (not (has_latches net (length (part_of k latches)) && has_slot k queues bench)) (Err ShortBuffer)
    (cond (not (has_room (tally_of k bench) (waiting_of k bench + 1))) (Err FullTally)
    (Ok tt))))))

-- ---- a turn
-- the first of n machines, in round order from machine `from % 8` on, for which a cycle waits; 8 where there is none
unfoldable pub next_from : ℕ → ℕ → List ℕ → ℕ
next_from from zero bench = 8
next_from from (suc n) bench = cond (waits (from % 8) bench) (from % 8) (next_from (from + 1) n bench)

-- the next machine after the last one served
unfoldable pub next_machine : List ℕ → ℕ
next_machine bench = next_from (last_of bench + 1) 8 bench

-- nothing waits
unfoldable pub is_idle : List ℕ → Bool
is_idle bench = eqb (next_machine bench) 8

-- an idle turn is asked for a bench only
unfoldable pub turn_check : List ℕ → List ℕ → List ℕ → List ℕ → List ℕ → Result Unit Cause
turn_check nets latches values queues bench =
    let k = next_machine bench in
    let net = part_of k nets in
    cond (not (is_bench nets queues bench)) (Err NotBench)
    (cond (is_idle bench) (Ok tt)
    (cond (not (has_latches net (length (part_of k latches)) && has_values net (length values))) (Err ShortBuffer)
    (cond (not (has_room (tally_of k bench) 1)) (Err FullTally)
    (Ok tt))))
