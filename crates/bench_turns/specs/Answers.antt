-- What a new cycle and a turn claim of their own answers, on any bench. What was answered is said by `Waits`, the cycle
-- waits; `Idles`; `Steps m w v`, machine m was stepped, with output words w and v; `Refuses n l`, the call is refused with
-- number n and line l. Assumes nothing.
use Rattle.std.specs.Prelude.{Option, Result, Err, Ok, ◌≡◌, true, List, [], ◌∷◌, ◌++◌, ℕ, ◌+◌, ◌-◌, ◌*◌, ◌%◌, ◌<◌, ◌≤◌, length, take, drop}
use Rattle.netlist.specs.Layout.{input_count}
use Rattle.netlist.specs.Valid.{is_netlist}
use Rattle.assertion.specs.Graph.{Cycle}
use Rattle.trace.specs.Traces.{is_cycle}
use Rattle.simulator.specs.Step.{step_end, step_of}
use Rattle.bench_turns.specs.declared.Cause.{Cause}
use Rattle.bench_turns.specs.Parts.{part_of}
use Rattle.bench_turns.specs.Numbers.{waiting_of, tally_of, last_of}
use Rattle.bench_turns.specs.Refusals.{refusal_of}
use Rattle.bench_turns.specs.Session.{Bench, queue_of}

-- ---- what a bench is
-- a place has a netlist and at most 16 waiting cycles, of which number j, from 0, the oldest first, is in the first bytes of
-- slot j, and 15 would refuse none of them
pub record Place (net : List ℕ) (n : ℕ) (queue : List ℕ) : Type 0 where
  pub netlist : is_netlist net ≡ true
  pub few : n ≤ 16
  pub slots : 64 * n ≤ length queue
  pub cycles : (j : ℕ) → j < n → is_cycle (input_count net) (take (input_count net) (drop (64 * j) queue)) ≡ true

pub record EightPlaces (nets : List ℕ) (b : Bench) : Type 0 where
  pub numbers : 33 ≤ length b.numbers
  pub last : last_of b.numbers ≤ 7
  pub places : (k : ℕ) → k < 8 → Place (part_of k nets) (waiting_of k b.numbers) (part_of k b.queues)

-- ---- who is next
-- how many machines come before machine k in the round after the last one served
abbrev pub distance : ℕ → ℕ → ℕ
distance k last = (k + 7 - last) % 8

-- "the next machine, in round order after the last one served .., that has a cycle waiting"
pub record IsNext (k : ℕ) (numbers : List ℕ) : Type 0 where
  pub machine : k < 8
  pub waiting : 0 < waiting_of k numbers
  pub first : (j : ℕ) → j < 8 → distance j (last_of numbers) < distance k (last_of numbers) → waiting_of j numbers ≡ 0

-- ---- a call that was lent the bench b and left the bench c
-- machine k's latch words, queue bytes and four numbers are as they were
pub record Untouched (k : ℕ) (b c : Bench) : Type 0 where
  pub latches : part_of k c.latches ≡ part_of k b.latches
  pub queue : part_of k c.queues ≡ part_of k b.queues
  pub waiting : waiting_of k c.numbers ≡ waiting_of k b.numbers
  pub tally : tally_of k c.numbers ≡ tally_of k b.numbers

-- a new cycle waits behind the others, and nothing else has moved
pub record Joins (nets : List ℕ) (b : Bench) (k : ℕ) (cycle : Cycle) (c : Bench) : Type 0 where
  pub queue : queue_of nets k c ≡ queue_of nets k b ++ (cycle ∷ [])
  pub latches : c.latches ≡ b.latches
  pub tally : tally_of k c.numbers ≡ tally_of k b.numbers
  pub last : last_of c.numbers ≡ last_of b.numbers
  pub others : (j : ℕ) → j < 8 → (j ≡ k → ⊥) → Untouched j b c

pub record AddMeans (nets : List ℕ) (b : Bench) (k : ℕ) (cycle : Cycle) (Waits : Type 0) (Refuses : ℕ → ℕ → Type 0) (c : Bench) : Type 0 where
  -- "16 (in any of the eight places; also a queue above 16, a waiting cycle that 15 would refuse, or a last one served above 7)"
  pub no_bench : k ≤ 7 → (EightPlaces nets b → ⊥) → Refuses 16 0
  pub joins : Waits → Joins nets b k cycle c
  pub kept : (Waits → ⊥) → c ≡ b

-- a turn with these value words has stepped machine m: its oldest cycle is gone, and words, latch words, value words and tally
-- are those that its step with that cycle answers and leaves; nothing else has moved
pub record Serves (nets : List ℕ) (b : Bench) (values : List ℕ) (m w v : ℕ) (c : Bench) (after : List ℕ) : Type 0 where
  pub next : IsNext m b.numbers
  -- "(0 comes first)"
  pub from_zero : last_of b.numbers ≡ 7 → (j : ℕ) → j < m → waiting_of j b.numbers ≡ 0
  pub cycle : Cycle
  pub queue : queue_of nets m b ≡ cycle ∷ queue_of nets m c
  -- "A served cycle frees its place"
  pub frees : waiting_of m c.numbers + 1 ≡ waiting_of m b.numbers
  pub stepped : step_of (part_of m nets) cycle (part_of m b.latches) values (tally_of m b.numbers)
      ≡ step_end (record { outcome = Ok (w, v); tally = tally_of m c.numbers }) (part_of m c.latches) after
  pub last : last_of c.numbers ≡ m
  pub others : (j : ℕ) → j < 8 → (j ≡ m → ⊥) → Untouched j b c

pub record TurnMeans (nets : List ℕ) (b : Bench) (values : List ℕ) (Idles : Type 0) (Steps : ℕ → ℕ → ℕ → Type 0) (Refuses : ℕ → ℕ → Type 0) (c : Bench) (after : List ℕ) : Type 0 where
  pub no_bench : (EightPlaces nets b → ⊥) → Refuses 16 0
  pub serves : (m w v : ℕ) → Steps m w v → Serves nets b values m w v c after
  -- "A turn with nothing waiting changes nothing and says idle"; a refused one changes nothing either
  pub idle : EightPlaces nets b → ((k : ℕ) → k < 8 → waiting_of k b.numbers ≡ 0) → Idles
  pub kept : ((m w v : ℕ) → Steps m w v → ⊥) → (c ≡ b) × (after ≡ values)

-- ---- what the answers of add and of turn say of a refusal
abbrev pub AddRefuses : Result Unit Cause → ℕ → ℕ → Type 0
AddRefuses r number line = (cause : Cause) × (r ≡ Err cause) × (refusal_of cause ≡ record { number = number; line = line })

abbrev pub TurnRefuses : Result (Option (ℕ × ℕ × ℕ)) Cause → ℕ → ℕ → Type 0
TurnRefuses r number line = (cause : Cause) × (r ≡ Err cause) × (refusal_of cause ≡ record { number = number; line = line })
