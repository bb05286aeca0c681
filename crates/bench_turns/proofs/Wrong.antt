-- Five wrong programs, each at what it would answer and leave on a bench of the worked cases: a claim does not hold there, so
-- none of them meets its contract. Assumes nothing.
use mathlib.Core.Path.{◌≡◌, refl, sym, ap, ◌∙◌}
use mathlib.Core.Bool.{false, true≢false}
use mathlib.Core.List.{List, [], ◌∷◌}
use Prim.Native.Nat.{ℕ}
use native.Mathlib.Omega.{arith}
use lib.Dec.{lit≤, lit<}
use lib.ListN.{get_or, set}
use Rattle.netlist.specs.Literals.{literal_of, variable_of, is_inverted}
use Rattle.netlist.specs.Lanes.{lane, each, number_of}
use Rattle.netlist.specs.Valid.{header_ok, is_within, is_free, latch_ok, free_count, output_ok, gate_ok, is_outline, is_netlist}
use Rattle.assertion.specs.Graph.{Cycle}
use Rattle.trace.specs.Traces.{is_bit, is_cycle}
use Rattle.calls.specs.Tallies.{has_room}
use Rattle.calls.specs.Refusals.{has_latches, has_values}
use Rattle.bench_turns.specs.Parts.{part_of, with_part, cycles_in, are_cycles, placed}
use Rattle.bench_turns.specs.Numbers.{last_of, waits, is_place, is_bench}
use Rattle.bench_turns.specs.declared.Cause.{Cause}
use Rattle.bench_turns.specs.declared.Cause.TheVariants.{FullTally}
use Rattle.bench_turns.specs.Refusals.{refusal_of, has_slot, add_check, next_from, next_machine, is_idle, turn_check}
use Rattle.bench_turns.specs.Add.{add_as, add_of}
use Rattle.bench_turns.specs.Turn.{turn_as, turn_of}
use Rattle.bench_turns.specs.Session.{Call, Bench, after, after_all, queue_of}
use Rattle.bench_turns.specs.Answers.{EightPlaces, AddMeans, Serves, TurnMeans}
use Rattle.bench_turns.specs.Claims.{BenchMeans}
use Rattle.bench_turns.proofs.Examples.{nets, spoiled, bench, numbers, none, started, values, c110, two_wait}

-- newest first: of 110 and then 011, both waiting for machine 0, 011 goes and 110 waits on
newest_first : (w v : ℕ) (c : Bench) (words : List ℕ) → queue_of nets 0 c ≡ c110 ∷ [] → Serves nets two_wait values 0 w v c words → ⊥
unfolding queue_of after_all after add_of add_as add_check has_slot is_place is_bench part_of with_part cycles_in are_cycles placed has_latches is_bit is_cycle has_room header_ok is_within is_free latch_ok free_count output_ok gate_ok is_outline is_netlist lane each number_of literal_of variable_of is_inverted
newest_first w v c words left s =
    let e = s.queue ∙ ap (◌∷◌ s.cycle) left in
    let second : ◌≡◌ {A = ℕ} 48 49 = ap (λ (cs : List Cycle). get_or (get_or cs 1 []) 0 0) e in
    omega arith

-- 16 of the own place only: place 7 has no netlist, and a cycle for machine 0 is taken
own-place-only : (c : Bench) → AddMeans spoiled started 0 c110 Unit (λ number line. ⊥) c → ⊥
unfolding is_netlist is_outline part_of header_ok
own-place-only c m = m.no_bench (lit≤ tt) none_there
  where
    spoilt : is_netlist (part_of 7 spoiled) ≡ false
    spoilt = refl

    none_there : EightPlaces spoiled started → ⊥
    none_there e = true≢false (sym (e.places 7 (lit< tt)).netlist ∙ spoilt)

-- 17 without those waiting: a cycle waits for machine 0, and a number of its tally is full
without-waiting : (start : Bench) (xs : List Call) → BenchMeans nets start xs (bench (numbers (1 ∷ 0 ∷ 0 ∷ 4294967295 ∷ []) 7)) → ⊥
unfolding turn_of turn_as turn_check is_idle next_machine next_from waits is_place is_bench part_of cycles_in are_cycles has_latches has_values is_bit is_cycle has_room header_ok is_within is_free latch_ok free_count output_ok gate_ok is_outline is_netlist lane each number_of literal_of variable_of is_inverted refusal_of
without-waiting start xs m =
    let e = (m.turns values FullTally refl).1 in
    let same : ◌≡◌ {A = ℕ} 17 12 = ap (λ (cause : Cause). (refusal_of cause).number) e in
    omega arith

-- last served moved by an idle turn
idle-moves-last : (last : ℕ) → (last ≡ 7 → ⊥) → TurnMeans nets started values Unit (λ m w v. ⊥) (λ number line. ⊥) (bench (numbers none last)) values → ⊥
idle-moves-last last moved m = moved (ap (λ (b : Bench). last_of b.numbers) (m.kept (λ m w v s. s)).0)

-- round order from 0 each time: machine 0 was served last, a cycle waits for 0 and for 1, and 0 is stepped
round_from_zero : (w v : ℕ) (c : Bench) (words : List ℕ) → Serves nets (bench (set (numbers (1 ∷ 0 ∷ 0 ∷ 0 ∷ []) 0) 4 1)) values 0 w v c words → ⊥
round_from_zero w v c words s = let z = s.next.first 1 (lit< tt) (lit< tt) in omega arith
