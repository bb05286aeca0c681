-- A new cycle and a turn in digits, for every input; and worked cases of the bench, computed. In these machine 0 has document 01's graph G (3 inputs, 2 latches, M = 12), the others
-- the netlist of one vertex (1 input, no latch). 48 is `0`, 49 is `1`. The third number of a tally is carried. Assumes nothing.
use Rattle.std.specs.Prelude.{Option, Some, None, Result, Ok, Err}
use Rattle.bench_turns.specs.declared.Cause.{Cause}
use mathlib.Core.Path.{◌≡◌, refl}
use mathlib.Core.List.{List, [], ◌∷◌, ◌++◌}
use Prim.Native.Nat.{ℕ, zero, suc}
use lib.ListN.{take, drop, set, replicate}
use Rattle.text.specs.declared.Refusal.{Refusal}
use Rattle.netlist.specs.Literals.{literal_of, variable_of, is_inverted}
use Rattle.netlist.specs.Lanes.{lane, each, number_of}
use Rattle.netlist.specs.Meaning.{signed, lit_of, bit_of, gate_of, gates_of, front, values_of, nexts_of, next_of, output_of}
use Rattle.netlist.specs.Valid.{header_ok, is_within, is_free, latch_ok, free_count, output_ok, gate_ok, is_outline, is_netlist}
use Rattle.assertion.specs.Graph.{Cycle}
use Rattle.calls.specs.Tallies.{is_rejected, is_checked, counted, has_room}
use Rattle.trace.specs.Traces.{is_bit, is_cycle}
use Rattle.calls.specs.Refusals.{has_latches, has_values, step_check}
use Rattle.simulator.specs.Step.{cycle_words, output_word, word_checked, latches_after, values_after, step_as, step_of}
use Rattle.bench_turns.specs.Parts.{part_of, with_part, cycles_in, are_cycles, placed, shifted}
use Rattle.bench_turns.specs.Numbers.{waits, is_place, is_bench}
use Rattle.bench_turns.specs.Refusals.{refusal_of, has_slot, add_check, next_from, next_machine, is_idle, turn_check}
use Rattle.bench_turns.specs.Add.{add_end, add_as, add_of}
use Rattle.bench_turns.specs.Turn.{turn_end, oldest, first_word, second_word, step_for, serve, turn_as, turn_of}
use Rattle.bench_turns.specs.Session.{Call, add_call, turn_call, Bench, add_on, turn_on, after, after_all}
use Rattle.bench_turns.proofs.EndLaws.{SameRest}
use Rattle.bench_turns.proofs.SessionLaws.{rest}
use Rattle.bench_turns.proofs.TestedLaws.{AddTested, add_tested, TurnTested, turn_tested}
use Rattle.bench_turns.proofs.MeansLaws.{add-took, turn_steps}

-- ---- the bench
abbrev pub G : List ℕ
G = 13 ∷ 3 ∷ 2 ∷ 2 ∷ 8 ∷ 18 ∷ 0 ∷ 25 ∷ 0 ∷ 24 ∷ 27 ∷ 8 ∷ 3 ∷ 10 ∷ 3 ∷ 4 ∷ 2 ∷ 16 ∷ 6 ∷ 16 ∷ 7 ∷ 4 ∷ 0 ∷ 23 ∷ 21 ∷ 24 ∷ 19 ∷ []

abbrev pub vertex : List ℕ
vertex = 1 ∷ 1 ∷ 0 ∷ 1 ∷ 0 ∷ 1 ∷ replicate 21 0

abbrev pub nets : List ℕ
nets = G ++ (vertex ++ (vertex ++ (vertex ++ (vertex ++ (vertex ++ (vertex ++ vertex))))))

-- every byte `1`, in three slots a machine
abbrev pub ones : List ℕ
ones = replicate 1536 49

-- the four numbers of machine 0 and how many wait for 1 to 7, and the last one served
abbrev pub numbers : List ℕ → ℕ → List ℕ
numbers place last = place ++ (replicate 28 0 ++ (last ∷ []))

abbrev pub none : List ℕ
none = replicate 4 0

abbrev pub bench : List ℕ → Bench
bench ns = record { latches = replicate 16 0; queues = ones; numbers = ns }

abbrev pub started : Bench
started = bench (numbers none 7)

abbrev pub values : List ℕ
values = replicate 14 0

-- ---- calls
abbrev t : Call
t = turn_call values

abbrev add1 : ℕ → Call
add1 k = add_call k (49 ∷ [])

abbrev pub c110 : Cycle
c110 = 49 ∷ 49 ∷ 48 ∷ []

abbrev c111 : Cycle
c111 = 49 ∷ 49 ∷ 49 ∷ []

abbrev c010 : Cycle
c010 = 48 ∷ 49 ∷ 48 ∷ []

-- the machines served by the turns of a list of calls; 8 is idle, 9 refused
abbrev machine_of : Result (Option (ℕ × ℕ × ℕ)) Cause → List ℕ → List ℕ
machine_of (Ok None) ms = 8 ∷ ms
machine_of (Ok (Some (m, w, c))) ms = m ∷ ms
machine_of (Err cause) ms = 9 ∷ ms

abbrev round : Bench → List Call → List ℕ
round b [] = []
round b (add_call m c ∷ xs) = round (after nets b (add_call m c)) xs
round b (turn_call v ∷ xs) = machine_of (turn_on nets b v).answer (round (after nets b (turn_call v)) xs)

-- number and line; 0 where it is accepted
abbrev no : ℕ → ℕ → Refusal
no n l = record { number = n; line = l }

abbrev of_add : Result Unit Cause → Refusal
of_add (Ok tt) = no 0 0
of_add (Err cause) = refusal_of cause

abbrev of_turn : Result (Option (ℕ × ℕ × ℕ)) Cause → Refusal
of_turn (Ok None) = no 0 0
of_turn (Ok (Some (m, w, c))) = no 0 0
of_turn (Err cause) = refusal_of cause

-- so many times the same call
abbrev times : ℕ → Call → List Call
times zero x = []
times (suc n) x = x ∷ times n x

-- a cycle for each of 1 to 7
abbrev one_each : List Call
one_each = add1 1 ∷ add1 2 ∷ add1 3 ∷ add1 4 ∷ add1 5 ∷ add1 6 ∷ add1 7 ∷ []

-- with 17 slots a machine
abbrev roomy : List ℕ → Bench
roomy ns = record { latches = replicate 16 0; queues = replicate 8704 49; numbers = ns }

-- 16 wait for machine 1
abbrev sixteen : Bench
sixteen = after_all nets (roomy (numbers none 7)) (times 16 (add1 1))

-- the third number of machine 0 has room for two
abbrev for_two : Bench
for_two = bench (numbers (0 ∷ 0 ∷ 0 ∷ 4294967293 ∷ []) 7)

-- every tally is full, and the last one served is 3
abbrev full-place : List ℕ
full-place = 0 ∷ 4294967295 ∷ 4294967295 ∷ 4294967295 ∷ []

abbrev all-full : List ℕ
all-full =
    full-place ++ (full-place ++ (full-place ++ (full-place ++ (full-place ++ (full-place ++ (full-place ++ (full-place ++ (3 ∷ []))))))))

-- 110 and 011 wait for machine 0
abbrev pub two_wait : Bench
two_wait = after_all nets started (add_call 0 c110 ∷ add_call 0 (48 ∷ 49 ∷ 49 ∷ []) ∷ [])

-- longer buffers: three numbers, five words, seven bytes and two numbers are a rest behind the parts
abbrev surplus : Bench
surplus = record { latches = replicate 21 5; queues = replicate 1543 49; numbers = numbers (1 ∷ 0 ∷ 0 ∷ 0 ∷ []) 7 ++ (8 ∷ 9 ∷ []) }

-- no latch words
abbrev wordless : Bench
wordless = record { latches = []; queues = ones; numbers = numbers none 7 }

-- place 7's M is one too large
abbrev pub spoiled : List ℕ
spoiled = set nets 189 2

-- ---- every input: which number and line it is refused with, and that nothing changes then
every-add : (nets : List ℕ) (b : Bench) (k : ℕ) (cycle : Cycle)
    → AddTested nets b k cycle ((add_on nets b k cycle).answer ≡ Ok tt)
    (λ cause number line. (add_on nets b k cycle ≡ add_end (Err cause) b.queues b.numbers) × (refusal_of cause ≡ no number line))
unfolding add_of add_as
every-add nets b k cycle = add_tested nets b k cycle _ _ (add-took nets b k cycle) (λ cause e. (rw e refl, refl))

every_turn : (nets : List ℕ) (b : Bench) (values : List ℕ)
    → TurnTested nets b values (turn_on nets b values ≡ turn_end (Ok None) b.latches values b.queues b.numbers)
    (λ k. (w : ℕ) × (v : ℕ) × ((turn_on nets b values).answer ≡ Ok (Some (k, w, v))))
    (λ cause number line. (turn_on nets b values ≡ turn_end (Err cause) b.latches values b.queues b.numbers) × (refusal_of cause ≡ no number line))
unfolding turn_of turn_as
every_turn nets b values = turn_tested nets b values _ _ _ (λ e i. rw (e, i) refl) (turn_steps nets b values) (λ cause e. (rw e refl, refl))

-- and a rest behind the eight parts stays
every_rest : (nets : List ℕ) (b : Bench) (x : Call) → SameRest b (after nets b x)
every_rest = rest

-- ---- worked
record Examples : Type 0 where
  -- 13.1: and nothing changes
  idle : after nets started t ≡ started
  idle_said : (turn_on nets started values).answer ≡ Ok None
  -- 13.2: 0 comes first
  zero-first : round started (add1 5 ∷ add_call 0 c110 ∷ t ∷ t ∷ t ∷ []) ≡ 0 ∷ 5 ∷ 8 ∷ []
  -- 13.3: after 0 the next in the round is 3
  in_round : round started (add_call 0 c110 ∷ t ∷ add_call 0 c010 ∷ add1 3 ∷ t ∷ t ∷ []) ≡ 0 ∷ 3 ∷ 0 ∷ []
  -- 13.4: the last one served decides
  after_five : round (bench (numbers none 5)) (add1 7 ∷ add1 6 ∷ t ∷ t ∷ []) ≡ 6 ∷ 7 ∷ []
  after_six : round (bench (numbers none 6)) (add1 7 ∷ add1 6 ∷ t ∷ t ∷ []) ≡ 7 ∷ 6 ∷ []
  -- 13.5: one machine alone is served each turn
  alone : round started (add1 2 ∷ add_call 2 (48 ∷ []) ∷ add1 2 ∷ t ∷ t ∷ t ∷ []) ≡ 2 ∷ 2 ∷ 2 ∷ []
  -- 13.6: order of arrival; only 110 is rejected
  arrival : take 4 (after_all nets started (add_call 0 c110 ∷ add_call 0 c111 ∷ add_call 0 c010 ∷ t ∷ t ∷ t ∷ [])).numbers ≡ 0 ∷ 3 ∷ 1 ∷ 2 ∷ []
  -- 13.7: the longest wait, eight turns
  longest : round (bench (numbers none 0)) (one_each ++ (one_each ++ (add_call 0 c111 ∷ times 8 t))) ≡ 1 ∷ 2 ∷ 3 ∷ 4 ∷ 5 ∷ 6 ∷ 7 ∷ 0 ∷ []
  -- 13.8: a queue of 16; a served cycle frees its place
  full : of_add (add_on nets sixteen 1 (49 ∷ [])).answer ≡ no 28 0
  served-one : round sixteen (t ∷ []) ≡ 1 ∷ []
  freed : of_add (add_on nets (after nets sixteen t) 1 (49 ∷ [])).answer ≡ no 0 0
  -- 13.9, 13.10: 27 comes first
  unknown : of_add (add_on nets started 8 (49 ∷ [])).answer ≡ no 27 0
  unknown-first : of_add (add_on [] started 8 (49 ∷ [])).answer ≡ no 27 0
  -- 13.11: place 7 is none, also for machine 0 and for a turn with nothing waiting
  other_place : of_add (add_on spoiled started 0 c110).answer ≡ no 16 0
  other_turn : of_turn (turn_on spoiled started values).answer ≡ no 16 0
  -- 13.12: last served 8; 17 waiting at place 4; a waiting cycle of byte 0 at place 4
  last_eight : of_add (add_on nets (bench (numbers none 8)) 0 c110).answer ≡ no 16 0
  seventeen : of_add (add_on nets (roomy (set (numbers none 7) 16 17)) 0 c110).answer ≡ no 16 0
  byte-zero : of_add (add_on nets (record { latches = replicate 16 0; queues = set ones 768 0; numbers = set (numbers none 7) 16 1 }) 0 c110).answer ≡ no 16 0
  -- 13.13: a cycle that is none
  short-cycle : of_add (add_on nets started 0 (49 ∷ 49 ∷ [])).answer ≡ no 15 1
  no_bit : of_add (add_on nets started 0 (49 ∷ 49 ∷ 50 ∷ [])).answer ≡ no 15 1
  long-cycle : of_add (add_on nets started 0 (49 ∷ 49 ∷ 48 ∷ 48 ∷ [])).answer ≡ no 15 1
  -- 13.14: 28 before 15 before 12
  full-first : of_add (add_on nets sixteen 1 (50 ∷ [])).answer ≡ no 28 0
  cycle-first : of_add (add_on nets wordless 0 (49 ∷ [])).answer ≡ no 15 1
  no_words : of_add (add_on nets wordless 0 c110).answer ≡ no 12 0
  -- 13.15: machine 1 has no latch
  no_latch : of_add (add_on nets wordless 1 (49 ∷ [])).answer ≡ no 0 0
  -- no whole slot is left
  slotless : of_add (add_on nets (bench (set (numbers none 7) 4 3)) 1 (49 ∷ [])).answer ≡ no 12 0
  -- 13.16: those waiting count
  first_fits : of_add (add_on nets for_two 0 c110).answer ≡ no 0 0
  second_fits : of_add (add_on nets (after nets for_two (add_call 0 c110)) 0 c110).answer ≡ no 0 0
  third_full : of_add (add_on nets (after_all nets for_two (times 2 (add_call 0 c110))) 0 c110).answer ≡ no 17 0
  -- 13.17: another machine
  other-full : of_add (add_on nets (bench (numbers (0 ∷ 4294967295 ∷ 4294967295 ∷ 4294967295 ∷ []) 7)) 1 (49 ∷ [])).answer ≡ no 0 0
  -- 13.18: 12 before 17
  short-values : of_turn (turn_on nets (bench (numbers (1 ∷ 0 ∷ 0 ∷ 0 ∷ []) 7)) (replicate 13 0)).answer ≡ no 12 0
  full-tally : of_turn (turn_on nets (bench (numbers (1 ∷ 0 ∷ 0 ∷ 4294967295 ∷ []) 7)) values).answer ≡ no 17 0
  short-first : of_turn (turn_on nets (bench (numbers (1 ∷ 0 ∷ 0 ∷ 4294967295 ∷ []) 7)) (replicate 13 0)).answer ≡ no 12 0
  -- 13.19: no words, no bytes, full tally, and idle; the last one served stays
  idle_anyway : turn_on nets (record { latches = []; queues = []; numbers = all-full }) [] ≡ turn_end (Ok None) [] [] [] all-full
  -- 13.20: 110 is rejected, and a rule at stake, in every lane; the freed slot keeps its bytes
  served-word : (turn_on nets two_wait values).answer ≡ Ok (Some (0, 0, 18446744073709551615))
  first_slot : take 3 (after nets two_wait t).queues ≡ 48 ∷ 49 ∷ 49 ∷ []
  freed_slot : take 3 (drop 64 (after nets two_wait t).queues) ≡ 48 ∷ 49 ∷ 49 ∷ []
  left_one : take 1 (after nets two_wait t).numbers ≡ 1 ∷ []
  -- longer buffers keep their surplus: netlists, latch words, value words, queues, numbers
  surplus-serves : (turn_on (nets ++ (1 ∷ 2 ∷ 3 ∷ [])) surplus (replicate 15 6)).answer ≡ Ok (Some (0, 18446744073709551615, 18446744073709551615))
  surplus-latches : drop 2 (turn_on (nets ++ (1 ∷ 2 ∷ 3 ∷ [])) surplus (replicate 15 6)).latches ≡ replicate 19 5
  surplus-values : drop 14 (turn_on (nets ++ (1 ∷ 2 ∷ 3 ∷ [])) surplus (replicate 15 6)).values ≡ 6 ∷ []
  surplus-numbers : drop 32 (turn_on (nets ++ (1 ∷ 2 ∷ 3 ∷ [])) surplus (replicate 15 6)).bench ≡ 0 ∷ 8 ∷ 9 ∷ []

examples : Examples
unfolding after after_all add_of add_as add_check has_slot turn_of turn_as turn_check serve step_for oldest first_word second_word is_idle next_machine next_from refusal_of waits is_place is_bench part_of with_part cycles_in are_cycles placed shifted step_of step_as step_check cycle_words output_word word_checked latches_after values_after has_latches has_values is_bit is_cycle is_rejected is_checked counted has_room header_ok is_within is_free latch_ok free_count output_ok gate_ok is_outline is_netlist signed lit_of bit_of gate_of gates_of front values_of nexts_of next_of output_of lane each number_of literal_of variable_of is_inverted
examples =
    record {
      idle = refl;
      idle_said = refl;
      zero-first = refl;
      in_round = refl;
      after_five = refl;
      after_six = refl;
      alone = refl;
      arrival = refl;
      longest = refl;
      full = refl;
      served-one = refl;
      freed = refl;
      unknown = refl;
      unknown-first = refl;
      other_place = refl;
      other_turn = refl;
      last_eight = refl;
      seventeen = refl;
      byte-zero = refl;
      short-cycle = refl;
      no_bit = refl;
      long-cycle = refl;
      full-first = refl;
      cycle-first = refl;
      no_words = refl;
      no_latch = refl;
      slotless = refl;
      first_fits = refl;
      second_fits = refl;
      third_full = refl;
      other-full = refl;
      short-values = refl;
      full-tally = refl;
      short-first = refl;
      idle_anyway = refl;
      served-word = refl;
      first_slot = refl;
      freed_slot = refl;
      left_one = refl;
      surplus-serves = refl;
      surplus-latches = refl;
      surplus-values = refl;
      surplus-numbers = refl;
    }
