-- Which new cycles and turns are taken, and for which cause, with which number and line, the others are refused, whatever
-- was lent. `Taken`, `Idles`, `Steps` and `Refuses` are what a call says of its own answer. Assumes nothing.
use Rattle.std.specs.Prelude.{Result, Ok, Err}
use mathlib.Core.Path.{◌≡◌, refl, sym, ap, ◌∙◌}
use mathlib.Core.Bool.{Bool, true, false}
use mathlib.Core.List.{List}
use Prim.Native.Nat.{ℕ, zero, suc, ◌+◌, ◌*◌, ◌<◌, ◌≤◌}
use native.Mathlib.Omega.{arith}
use lib.ListN.{length, take, drop}
use lib.Seq.{drop-drop}
use borrow.Author.Tests.{le-leb, lt-leb}
use Rattle.netlist.specs.Layout.{maximum, input_count, latch_count}
use Rattle.netlist.proofs.EachLaws.{both}
use Rattle.assertion.specs.Graph.{Cycle}
use Rattle.trace.specs.Traces.{is_cycle}
use Rattle.calls.specs.declared.tally.Tally.{Tally}
use Rattle.calls.specs.Tallies.{Fits, has_room}
use Rattle.calls.specs.Refusals.{has_latches, has_values}
use Rattle.calls.proofs.TallyLaws.{room_fits, fits-room}
use Rattle.bench_turns.specs.declared.Cause.{Cause}
use Rattle.bench_turns.specs.declared.Cause.TheVariants.{NoMachine, NotBench, FullQueue, WrongCycle, ShortBuffer, FullTally}
use Rattle.bench_turns.specs.Parts.{part_of, cycles_in, are_cycles}
use Rattle.bench_turns.specs.Numbers.{waiting_of, tally_of, is_bench}
use Rattle.bench_turns.specs.Refusals.{refusal_of, has_slot, add_check, next_machine, is_idle, turn_check}
use Rattle.bench_turns.specs.Session.{Bench}
use Rattle.bench_turns.specs.Answers.{EightPlaces, IsNext}
use Rattle.bench_turns.proofs.CheckLaws.{bench-ready, ready-bench}
use Rattle.bench_turns.proofs.RoundLaws.{next_one, none-waits}

-- ---- waiting cycles, by their slots
slot_more : (j : ℕ) (q : List ℕ) → drop (64 * j) (drop 64 q) ≡ drop (64 * suc j) q
slot_more j q = let e : 64 + 64 * j ≡ 64 * suc j = omega arith in drop-drop (64 * j) 64 q ∙ ap (λ (n : ℕ). drop n q) e

each_slot : (i n : ℕ) (q : List ℕ) → are_cycles i (cycles_in i n q) ≡ true → (j : ℕ) → j < n → is_cycle i (take i (drop (64 * j) q)) ≡ true
unfolding cycles_in are_cycles
each_slot i zero q e j h = absurd (omega arith)
each_slot i (suc n) q e zero h = (both (is_cycle i (take i q)) (are_cycles i (cycles_in i n (drop 64 q))) e).0
each_slot i (suc n) q e (suc j) h =
    ap (λ (z : List ℕ). is_cycle i (take i z)) (sym (slot_more j q))
    ∙ each_slot i n (drop 64 q) (both (is_cycle i (take i q)) (are_cycles i (cycles_in i n (drop 64 q))) e).1 j (omega arith)

all_slots : (i n : ℕ) (q : List ℕ) → ((j : ℕ) → j < n → is_cycle i (take i (drop (64 * j) q)) ≡ true) → are_cycles i (cycles_in i n q) ≡ true
unfolding cycles_in are_cycles
all_slots i zero q h = refl
all_slots i (suc n) q h =
    let first : is_cycle i (take i q) ≡ true = h 0 (omega arith) in
    rw first (all_slots i n (drop 64 q) (λ j l. ap (λ (z : List ℕ). is_cycle i (take i z)) (slot_more j q) ∙ h (suc j) (omega arith)))

-- ---- what a bench is
module _ (nets : List ℕ) (b : Bench) where
  pub eight_places : is_bench nets b.queues b.numbers ≡ true → EightPlaces nets b
  eight_places e =
      let r = bench-ready nets b.queues b.numbers e in
      record {
        numbers = r.numbers;
        last = r.last;
        places = λ k h. let p = r.places k h in record { netlist = p.netlist; few = p.few; slots = p.slots; cycles = each_slot _ _ _ p.cycles };
      }

  is_bench_lem : EightPlaces nets b → is_bench nets b.queues b.numbers ≡ true
  is_bench_lem e =
      ready-bench nets b.queues b.numbers
      (record {
        numbers = e.numbers;
        last = e.last;
        places = λ k h. let p = e.places k h in record { netlist = p.netlist; few = p.few; slots = p.slots; cycles = all_slots _ _ _ p.cycles };
      })

  no_bench : (EightPlaces nets b → ⊥) → is_bench nets b.queues b.numbers ≡ false
  no_bench h = by (is_bench nets b.queues b.numbers) refl
    where
      by : (t : Bool) → is_bench nets b.queues b.numbers ≡ t → t ≡ false
      by true e = absurd (h (eight_places e))
      by false e = refl

-- no room where a number is full
full : (t : Tally) (n : ℕ) → (Fits t n → ⊥) → has_room t n ≡ false
full t n h = go (has_room t n) refl
  where
    go : (b : Bool) → has_room t n ≡ b → b ≡ false
    go true e = absurd (h (room_fits t n e))
    go false e = refl

-- ---- a new cycle for machine k: 27, 16, 28, 15, 12, 17
-- it is a machine of a bench, with a place in its queue, and this is a cycle of it
pub record MayWait (nets : List ℕ) (b : Bench) (k : ℕ) (cycle : Cycle) : Type 0 where
  pub machine : k ≤ 7
  pub eight : EightPlaces nets b
  pub place : waiting_of k b.numbers < 16
  pub bits : is_cycle (input_count (part_of k nets)) cycle ≡ true

module _ (nets : List ℕ) (b : Bench) (k : ℕ) (cycle : Cycle) (Taken : Type 0) (Refuses : Cause → ℕ → ℕ → Type 0) where
  abbrev net : List ℕ
  net = part_of k nets

  abbrev n : ℕ
  n = waiting_of k b.numbers

  pub record AddTested : Type 0 where
    pub no_machine : 7 < k → Refuses NoMachine 27 0
    pub no_bench : k ≤ 7 → (EightPlaces nets b → ⊥) → Refuses NotBench 16 0
    pub full-queue : k ≤ 7 → EightPlaces nets b → 16 ≤ n → Refuses FullQueue 28 0
    pub wrong-cycle : k ≤ 7 → EightPlaces nets b → n < 16 → is_cycle (input_count net) cycle ≡ false → Refuses WrongCycle 15 1
    pub few-latches : MayWait nets b k cycle → length (part_of k b.latches) < latch_count net → Refuses ShortBuffer 12 0
    pub no_slot : MayWait nets b k cycle → latch_count net ≤ length (part_of k b.latches) → length (part_of k b.queues) < 64 * (n + 1) → Refuses ShortBuffer 12 0
    -- "if it and those waiting, added to any number of the machine's tally, pass 4,294,967,295, it is 17"
    pub no_room : MayWait nets b k cycle → latch_count net ≤ length (part_of k b.latches) → 64 * (n + 1) ≤ length (part_of k b.queues)
        → (Fits (tally_of k b.numbers) (n + 1) → ⊥) → Refuses FullTally 17 0
    pub taken : MayWait nets b k cycle → latch_count net ≤ length (part_of k b.latches) → 64 * (n + 1) ≤ length (part_of k b.queues)
        → Fits (tally_of k b.numbers) (n + 1) → Taken

  abbrev check : Result Unit Cause
  check = add_check nets b.latches b.queues b.numbers k cycle

  pub add_tested : (check ≡ Ok tt → Taken) → ((cause : Cause) → check ≡ Err cause → Refuses cause (refusal_of cause).number (refusal_of cause).line) → AddTested
  unfolding refusal_of add_check has_latches has_slot
  add_tested took told =
      let is = is_bench_lem nets b in
      record {
        no_machine = λ h. told NoMachine (rw (lt-leb k 7 h));
        no_bench = λ h e. told NotBench (rw (le-leb k 7 h, no_bench nets b e));
        full-queue = λ h e f. told FullQueue (rw (le-leb k 7 h, is e, lt-leb (n + 1) 16 (omega arith)));
        wrong-cycle = λ h e f c. told WrongCycle (rw (le-leb k 7 h, is e, le-leb (n + 1) 16 (omega arith), c));
        few-latches = λ m l. told ShortBuffer (rw (le-leb k 7 m.machine, is m.eight, le-leb (n + 1) 16 (omega (arith, m.place)), m.bits, lt-leb _ _ l));
        no_slot = λ m l s. told ShortBuffer (rw (le-leb k 7 m.machine, is m.eight, le-leb (n + 1) 16 (omega (arith, m.place)), m.bits, le-leb _ _ l, lt-leb _ _ s));
        no_room = λ m l s f.
            told FullTally (rw (le-leb k 7 m.machine, is m.eight, le-leb (n + 1) 16 (omega (arith, m.place)), m.bits, le-leb _ _ l, le-leb _ _ s, full (tally_of k b.numbers) (n + 1) f));
        taken = λ m l s f.
            took (rw (le-leb k 7 m.machine, is m.eight, le-leb (n + 1) 16 (omega (arith, m.place)), m.bits, le-leb _ _ l, le-leb _ _ s, fits-room (tally_of k b.numbers) (n + 1) f));
      }

-- ---- a turn: "16, then 12 and 17 for the machine it would step"
module _ (nets : List ℕ) (b : Bench) (values : List ℕ) (Idles : Type 0) (Steps : ℕ → Type 0) (Refuses : Cause → ℕ → ℕ → Type 0) where
  pub record TurnTested : Type 0 where
    pub no_bench : (EightPlaces nets b → ⊥) → Refuses NotBench 16 0
    pub idle : EightPlaces nets b → ((k : ℕ) → k < 8 → waiting_of k b.numbers ≡ 0) → Idles
    pub few-latches : (k : ℕ) → EightPlaces nets b → IsNext k b.numbers → length (part_of k b.latches) < latch_count (part_of k nets) → Refuses ShortBuffer 12 0
    pub few-values : (k : ℕ) → EightPlaces nets b → IsNext k b.numbers → latch_count (part_of k nets) ≤ length (part_of k b.latches) → length values < maximum (part_of k nets) + 1
        → Refuses ShortBuffer 12 0
    pub no_room : (k : ℕ) → EightPlaces nets b → IsNext k b.numbers → latch_count (part_of k nets) ≤ length (part_of k b.latches) → maximum (part_of k nets) + 1 ≤ length values
        → (Fits (tally_of k b.numbers) 1 → ⊥) → Refuses FullTally 17 0
    pub steps : (k : ℕ) → EightPlaces nets b → IsNext k b.numbers → latch_count (part_of k nets) ≤ length (part_of k b.latches) → maximum (part_of k nets) + 1 ≤ length values
        → Fits (tally_of k b.numbers) 1 → Steps k

  abbrev checked : Result Unit Cause
  checked = turn_check nets b.latches values b.queues b.numbers

  pub turn_tested : (checked ≡ Ok tt → is_idle b.numbers ≡ true → Idles) → (checked ≡ Ok tt → is_idle b.numbers ≡ false → Steps (next_machine b.numbers))
      → ((cause : Cause) → checked ≡ Err cause → Refuses cause (refusal_of cause).number (refusal_of cause).line) → TurnTested
  unfolding refusal_of turn_check has_latches has_values
  turn_tested idle steps told =
      let is = is_bench_lem nets b in
      record {
        no_bench = λ e. told NotBench (rw (no_bench nets b e));
        idle = λ e w. let i = none-waits b.numbers e.last w in idle (rw (is e, i)) i;
        few-latches = λ k e n l. let o = next_one b.numbers e.last k n in told ShortBuffer (rw (is e, o.0, ← o.1, lt-leb _ _ l));
        few-values = λ k e n l v. let o = next_one b.numbers e.last k n in told ShortBuffer (rw (is e, o.0, ← o.1, le-leb _ _ l, lt-leb _ _ v));
        no_room = λ k e n l v f. let o = next_one b.numbers e.last k n in told FullTally (rw (is e, o.0, ← o.1, le-leb _ _ l, le-leb _ _ v, full (tally_of k b.numbers) 1 f));
        steps = λ k e n l v f. let o = next_one b.numbers e.last k n in rw o.1 (steps (rw (is e, o.0, ← o.1, le-leb _ _ l, le-leb _ _ v, fits-room (tally_of k b.numbers) 1 f)) o.0);
      }
