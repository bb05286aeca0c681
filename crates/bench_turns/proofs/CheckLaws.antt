-- Laws of the tests before a call: what holds where they all pass. Assumes nothing.
use Rattle.std.specs.Prelude.{Result, Ok, Err}
use mathlib.Core.Path.{◌≡◌, refl}
use mathlib.Core.Bool.{Bool, true, false, cond, not, ◌&&◌}
use mathlib.Core.List.{List}
use Prim.Native.Nat.{ℕ, ◌+◌, ◌*◌, ◌<◌, ◌≤◌}
use native.Mathlib.Omega.{arith}
use lib.Dec.{leb}
use lib.ListN.{length}
use borrow.Author.Tests.{leb-true, leb-false, le-leb}
use Rattle.netlist.specs.Layout.{maximum, input_count, latch_count}
use Rattle.netlist.specs.Lanes.{each}
use Rattle.netlist.specs.Valid.{is_netlist}
use Rattle.netlist.proofs.EachLaws.{both, each_all, each_at}
use Rattle.assertion.specs.Graph.{Cycle}
use Rattle.calls.specs.Tallies.{has_room}
use Rattle.trace.specs.Traces.{is_cycle}
use Rattle.calls.specs.Refusals.{has_latches, has_values}
use Rattle.bench_turns.specs.Parts.{part_of, cycles_in, are_cycles}
use Rattle.bench_turns.specs.Numbers.{waiting_of, tally_of, last_of, is_place, is_bench}
use Rattle.bench_turns.specs.declared.Cause.{Cause}
use Rattle.bench_turns.specs.declared.Cause.TheVariants.{NoMachine, NotBench, FullQueue, WrongCycle, ShortBuffer, FullTally}
use Rattle.bench_turns.specs.Refusals.{has_slot, add_check, next_machine, is_idle, turn_check}

-- what a call answers that is not refused
abbrev passes : Result Unit Cause
passes = Ok tt

first : (a : Bool) (cause : Cause) (c : Result Unit Cause) → cond (not a) (Err cause) c ≡ Ok tt → (a ≡ true) × (c ≡ Ok tt)
first true cause c e = (refl, e)
first false cause c e = let z : ◌≡◌ {A = ℕ} 0 1 = cc in absurd (omega arith)

both_so : (a b : Bool) → a ≡ true → b ≡ true → (a && b) ≡ true
both_so a b e f = rw (e, f)

-- ---- a place
pub record PlaceReady (net : List ℕ) (n : ℕ) (queue : List ℕ) : Type 0 where
  pub netlist : is_netlist net ≡ true
  pub few : n ≤ 16
  pub slots : 64 * n ≤ length queue
  pub cycles : are_cycles (input_count net) (cycles_in (input_count net) n queue) ≡ true

module _ (net : List ℕ) (n : ℕ) (queue : List ℕ) where
  abbrev A : Bool
  A = are_cycles (input_count net) (cycles_in (input_count net) n queue)

  place-ready : is_place net n queue ≡ true → PlaceReady net n queue
  unfolding is_place
  place-ready e =
      let a = both (is_netlist net) (leb n 16 && (leb (64 * n) (length queue) && A)) e in
      let b = both (leb n 16) (leb (64 * n) (length queue) && A) a.1 in
      let c = both (leb (64 * n) (length queue)) A b.1 in
      record { netlist = a.0; few = leb-true n 16 b.0; slots = leb-true (64 * n) (length queue) c.0; cycles = c.1 }

  ready-place : PlaceReady net n queue → is_place net n queue ≡ true
  unfolding is_place
  ready-place r =
      both_so (is_netlist net) (leb n 16 && (leb (64 * n) (length queue) && A)) r.netlist
      (both_so (leb n 16) (leb (64 * n) (length queue) && A) (le-leb n 16 r.few)
      (both_so (leb (64 * n) (length queue)) A (le-leb (64 * n) (length queue) r.slots) r.cycles))

-- ---- a bench
pub record BenchReady (nets queues bench : List ℕ) : Type 0 where
  pub numbers : 33 ≤ length bench
  pub last : last_of bench ≤ 7
  pub places : (k : ℕ) → k < 8 → PlaceReady (part_of k nets) (waiting_of k bench) (part_of k queues)

module _ (nets queues bench : List ℕ) where
  abbrev P : ℕ → Bool
  P = λ k. is_place (part_of k nets) (waiting_of k bench) (part_of k queues)

  pub bench-ready : is_bench nets queues bench ≡ true → BenchReady nets queues bench
  unfolding is_bench
  bench-ready e =
      let a = both (leb 33 (length bench)) (leb (last_of bench) 7 && each 8 P) e in
      let b = both (leb (last_of bench) 7) (each 8 P) a.1 in
      record {
        numbers = leb-true 33 (length bench) a.0;
        last = leb-true (last_of bench) 7 b.0;
        places = λ k h. place-ready (part_of k nets) (waiting_of k bench) (part_of k queues) (each_at P 8 b.1 k h);
      }

  pub ready-bench : BenchReady nets queues bench → is_bench nets queues bench ≡ true
  unfolding is_bench
  ready-bench r =
      both_so (leb 33 (length bench)) (leb (last_of bench) 7 && each 8 P) (le-leb 33 (length bench) r.numbers)
      (both_so (leb (last_of bench) 7) (each 8 P) (le-leb (last_of bench) 7 r.last)
      (each_all P 8 (λ k h. ready-place (part_of k nets) (waiting_of k bench) (part_of k queues) (r.places k h))))

-- ---- a new cycle
pub record AddReady (nets latches queues bench : List ℕ) (k : ℕ) (cycle : Cycle) : Type 0 where
  pub machine : k < 8
  pub ready : BenchReady nets queues bench
  pub few : waiting_of k bench + 1 ≤ 16
  pub bits : is_cycle (input_count (part_of k nets)) cycle ≡ true
  pub held : latch_count (part_of k nets) ≤ length (part_of k latches)
  pub slot : 64 * (waiting_of k bench + 1) ≤ length (part_of k queues)
  pub room : has_room (tally_of k bench) (waiting_of k bench + 1) ≡ true

module _ (nets latches queues bench : List ℕ) (k : ℕ) (cycle : Cycle) where
  pub add-passed : add_check nets latches queues bench k cycle ≡ Ok tt → AddReady nets latches queues bench k cycle
  unfolding add_check has_latches has_slot
  add-passed e =
      let net = part_of k nets in
      let n = waiting_of k bench in
      let H = leb (latch_count net) (length (part_of k latches)) in
      let S = leb (64 * (n + 1)) (length (part_of k queues)) in
      let a = first (leb k 7) NoMachine _ e in
      let b = first (is_bench nets queues bench) NotBench _ a.1 in
      let c = first (leb (n + 1) 16) FullQueue _ b.1 in
      let d = first (is_cycle (input_count net) cycle) WrongCycle _ c.1 in
      let f = first (H && S) ShortBuffer _ d.1 in
      let g = first (has_room (tally_of k bench) (n + 1)) FullTally _ f.1 in
      let hs = both H S f.0 in
      let small = leb-true k 7 a.0 in
      record {
        machine = omega arith;
        ready = bench-ready nets queues bench b.0;
        few = leb-true (n + 1) 16 c.0;
        bits = d.0;
        held = leb-true (latch_count net) (length (part_of k latches)) hs.0;
        slot = leb-true (64 * (n + 1)) (length (part_of k queues)) hs.1;
        room = g.0;
      }

  -- a bench is not refused for being none
  pub add-bench : is_bench nets queues bench ≡ true → add_check nets latches queues bench k cycle ≡ Err NotBench → ⊥
  unfolding add_check
  add-bench ib e =
      let net = part_of k nets in
      let n = waiting_of k bench in
      by (leb k 7) (leb (n + 1) 16) (is_cycle (input_count net) cycle) (has_latches net (length (part_of k latches)) && has_slot k queues bench) (has_room (tally_of k bench) (n + 1)) (rw ib at e)
    where
      by : (a b c d f : Bool)
          → cond (not a) (Err NoMachine) (cond (not b) (Err FullQueue) (cond (not c) (Err WrongCycle) (cond (not d) (Err ShortBuffer) (cond (not f) (Err FullTally) passes)))) ≡ Err NotBench
          → ⊥
      by false b c d f e = let z : ◌≡◌ {A = ℕ} 0 1 = cc in omega arith
      by true false c d f e = let z : ◌≡◌ {A = ℕ} 0 1 = cc in omega arith
      by true true false d f e = let z : ◌≡◌ {A = ℕ} 0 1 = cc in omega arith
      by true true true false f e = let z : ◌≡◌ {A = ℕ} 0 1 = cc in omega arith
      by true true true true false e = let z : ◌≡◌ {A = ℕ} 0 1 = cc in omega arith
      by true true true true true e = let z : ◌≡◌ {A = ℕ} 0 1 = cc in omega arith

-- ---- a turn that is not idle
pub record TurnReady (k : ℕ) (nets latches values queues bench : List ℕ) : Type 0 where
  pub ready : BenchReady nets queues bench
  pub held : latch_count (part_of k nets) ≤ length (part_of k latches)
  pub lent : maximum (part_of k nets) + 1 ≤ length values
  pub room : has_room (tally_of k bench) 1 ≡ true

module _ (nets latches values queues bench : List ℕ) where
  abbrev k : ℕ
  k = next_machine bench

  abbrev net : List ℕ
  net = part_of k nets

  abbrev H : Bool
  H = leb (latch_count net) (length (part_of k latches))

  abbrev W : Bool
  W = leb (maximum net + 1) (length values)

  pub turn_passed : turn_check nets latches values queues bench ≡ Ok tt → is_idle bench ≡ false → TurnReady k nets latches values queues bench
  unfolding turn_check has_latches has_values
  turn_passed e idle =
      let a = first (is_bench nets queues bench) NotBench _ e in
      let b = first (H && W) ShortBuffer (cond (not (has_room (tally_of k bench) 1)) (Err FullTally) passes) (rw idle at a.1) in
      let c = first (has_room (tally_of k bench) 1) FullTally _ b.1 in
      let hv = both H W b.0 in
      record {
        ready = bench-ready nets queues bench a.0;
        held = leb-true (latch_count net) (length (part_of k latches)) hv.0;
        lent = leb-true (maximum net + 1) (length values) hv.1;
        room = c.0;
      }

  -- a turn of a bench that is not idle, with latch words and room, is refused for short value words only
  short-busy : latch_count net ≤ length (part_of k latches) → has_room (tally_of k bench) 1 ≡ true → (cause : Cause)
      → cond (not (has_latches net (length (part_of k latches)) && has_values net (length values))) (Err ShortBuffer) (cond (not (has_room (tally_of k bench) 1)) (Err FullTally) passes) ≡ Err cause
      → (cause ≡ ShortBuffer) × (length values < maximum net + 1)
  unfolding has_latches has_values
  short-busy l rm cause e = by W refl (rw (le-leb (latch_count net) (length (part_of k latches)) l, rm) at e)
    where
      by : (v : Bool) → W ≡ v → cond (not v) (Err ShortBuffer) passes ≡ Err cause → (cause ≡ ShortBuffer) × (length values < maximum net + 1)
      by true is f = let z : ◌≡◌ {A = ℕ} 0 1 = cc in absurd (omega arith)
      by false is f = ((cc), leb-false (maximum net + 1) (length values) is)

  pub turn_short : is_bench nets queues bench ≡ true
      → (is_idle bench ≡ false → (latch_count net ≤ length (part_of k latches)) × (has_room (tally_of k bench) 1 ≡ true))
      → (cause : Cause) → turn_check nets latches values queues bench ≡ Err cause
      → (cause ≡ ShortBuffer) × (is_idle bench ≡ false) × (length values < maximum net + 1)
  unfolding turn_check
  turn_short ib busy cause e = by (is_idle bench) refl (rw ib at e)
    where
      by : (i : Bool) → is_idle bench ≡ i
          → cond i passes (cond (not (has_latches net (length (part_of k latches)) && has_values net (length values))) (Err ShortBuffer) (cond (not (has_room (tally_of k bench) 1)) (Err FullTally) passes)) ≡ Err cause
          → (cause ≡ ShortBuffer) × (i ≡ false) × (length values < maximum net + 1)
      by true is f = let z : ◌≡◌ {A = ℕ} 0 1 = cc in absurd (omega arith)
      by false is f = let s = short-busy (busy is).0 (busy is).1 cause f in (s.0, refl, s.1)
