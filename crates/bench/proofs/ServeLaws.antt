-- Laws of a turn: on a bench its machine's step can be refused for short words or a full tally only, and the turn ends as
-- the step does. Assumes nothing.
use Rattle.std.specs.Prelude.{Some, None, Result, Ok, Err}
use Rattle.bench_turns.specs.declared.Cause as bench
use mathlib.Core.Path.{◌≡◌, refl, sym, ap, subst, ◌∙◌}
use mathlib.Core.Bool.{Bool, true, false, cond, not, ◌&&◌}
use mathlib.Core.List.{List}
use Prim.Native.Nat.{ℕ, suc, ◌-◌, ◌*◌, ◌<◌, ◌≤◌}
use native.Mathlib.Omega.{arith}
use lib.ListN.{length, take}
use Rattle.netlist.specs.Layout.{input_count}
use Rattle.netlist.proofs.ValidLaws.{valid}
use Rattle.assertion.specs.Graph.{Cycle}
use Rattle.trace.specs.Traces.{is_cycle}
use Rattle.calls.specs.declared.refusal.Cause.{Cause}
use Rattle.calls.specs.declared.refusal.Cause.TheVariants as cause
use Rattle.calls.specs.declared.tally.Tally.{Tally}
use Rattle.calls.specs.Tallies.{has_room}
use Rattle.calls.specs.Refusals.{has_latches, has_values, step_check}
use Rattle.simulator.specs.declared.outcome.Stepped.{Stepped}
use Rattle.simulator.specs.Step.{step_as, step_of}
use Rattle.bench_turns.specs.declared.Cause.TheVariants.{NotBench, ShortBuffer, FullTally}
use Rattle.bench_turns.specs.Parts.{part_of, with_part, cycles_in, are_cycles, shifted}
use Rattle.bench_turns.specs.Numbers.{waiting_of, tally_of, last_of, with_waiting, with_tally, with_last, is_bench}
use Rattle.bench_turns.specs.Refusals.{next_machine, is_idle, turn_check}
use Rattle.bench_turns.specs.Turn.{turn_end, oldest, first_word, second_word, step_for, serve, turn_as, turn_of}
use Rattle.bench_turns.proofs.QueueLaws.{are-first, shifted-cycles}
use Rattle.bench_turns.proofs.CheckLaws.{PlaceReady, BenchReady, bench-ready}
use Rattle.bench_turns.proofs.RoundLaws.{Next, next-is, waits-some}
use Rattle.bench_turns.specs.Refusals.{cause_of}
use Rattle.bench.proofs.SliceLaws.{with_own}

-- ---- a place with a cycle waiting
module _ (net : List ℕ) (n : ℕ) (queue : List ℕ) (r : PlaceReady net n queue) (some : 0 < n) where
  few : input_count net ≤ 64
  few = (valid net r.netlist).few

  pub inputs_there : input_count net ≤ length queue
  inputs_there = let s = r.slots in let f = few in omega arith

  pub oldest-right : is_cycle (input_count net) (take (input_count net) queue) ≡ true
  oldest-right =
      let s : suc (n - 1) ≡ n = omega arith in
      let l = r.slots in
      (are-first (input_count net) (take (input_count net) queue) (cycles_in (input_count net) (n - 1) (shifted (n - 1) queue))
      (subst (λ (z : List Cycle). are_cycles (input_count net) z ≡ true)
      (ap (λ (z : ℕ). cycles_in (input_count net) z queue) (sym s) ∙ shifted-cycles (input_count net) (n - 1) queue few (omega arith)) r.cycles)
      ).0

-- ---- the step of machine k, on what the code has at hand
pub step_is_for : (nets latches values queues bench : List ℕ) (k : ℕ) (net : List ℕ) → net ≡ part_of k nets → (queue : List ℕ) → queue ≡ part_of k queues
    → (i : ℕ) → i ≡ input_count net → (t : Tally) → t ≡ tally_of k bench → (r : Stepped) (l v : List ℕ)
    → (r ≡ (step_of net (take i queue) (part_of k latches) values t).answer) × (l ≡ with_part k (step_of net (take i queue) (part_of k latches) values t).latches latches) × (v ≡ (step_of net (take i queue) (part_of k latches) values t).values)
    → (r ≡ (step_for k nets latches values queues bench).answer) × (l ≡ with_part k (step_for k nets latches values queues bench).latches latches) × (v ≡ (step_for k nets latches values queues bench).values)
unfolding step_for oldest
step_is_for nets latches values queues bench k net en queue eq i ei t et r l v h = rw (ei, en, eq, et) at h

-- ---- how a step ends
module _ (net cycle latches values : List ℕ) (t : Tally) where
  abbrev check : Result Unit Cause
  check = step_check net cycle (length latches) (length values) t

  pub record RefusedSo (cause : Cause) : Type 0 where
    pub failed : check ≡ Err cause
    pub latches-same : (step_of net cycle latches values t).latches ≡ latches
    pub values_same : (step_of net cycle latches values t).values ≡ values

  refused_as_lem : (c : Result Unit Cause) → check ≡ c → (cause : Cause) → (step_as c net cycle latches values t).answer.outcome ≡ Err cause
      → (check ≡ Err cause) × ((step_as c net cycle latches values t).latches ≡ latches) × ((step_as c net cycle latches values t).values ≡ values)
  unfolding step_as
  refused_as_lem (Ok tt) is cause e = let z : ◌≡◌ {A = ℕ} 0 1 = cc in absurd (omega arith)
  refused_as_lem (Err other) is cause e = let same : other ≡ cause = cc in (is ∙ ap Err same, refl, refl)

  pub step_refusal : (cause : Cause) → (step_of net cycle latches values t).answer.outcome ≡ Err cause → RefusedSo cause
  unfolding step_of
  step_refusal cause e = let r = refused_as_lem check refl cause e in record { failed = r.0; latches-same = r.1; values_same = r.2 }

  output_as : (c : Result Unit Cause) → check ≡ c → (w d : ℕ) → (step_as c net cycle latches values t).answer.outcome ≡ Ok (w, d) → check ≡ Ok tt
  unfolding step_as
  output_as (Ok tt) is w d e = is
  output_as (Err other) is w d e = let z : ◌≡◌ {A = ℕ} 0 1 = cc in absurd (omega arith)

  pub step_output : (w d : ℕ) → (step_of net cycle latches values t).answer.outcome ≡ Ok (w, d) → check ≡ Ok tt
  unfolding step_of
  step_output w d e = output_as check refl w d e

-- the test of a turn is that of its machine's step
unfoldable from_step : Result Unit Cause → Result Unit bench.Cause
from_step (Ok tt) = Ok tt
from_step (Err cause) = Err (cause_of cause)

chain : (a b : Bool)
    → cond (not a) (Err ShortBuffer) (cond (not b) (Err FullTally) (Ok tt))
    ≡ from_step (cond (not a) (Err cause.ShortBuffer) (cond (not b) (Err cause.FullTally) (Ok tt)))
unfolding from_step cause_of
chain true true = refl
chain true false = refl
chain false b = refl

-- ---- a turn of a bench
module _ (nets latches values queues bench : List ℕ) where
  pub not-bench : is_bench nets queues bench ≡ false → turn_end (Err NotBench) latches values queues bench ≡ turn_of nets latches values queues bench
  unfolding turn_of turn_as turn_check
  not-bench e = rw e refl

  module _ (e : is_bench nets queues bench ≡ true) where
    ready : BenchReady nets queues bench
    ready = bench-ready nets queues bench e

    pub enough_numbers : (33 ≤ length bench) × (last_of bench ≤ 7)
    enough_numbers = (ready.numbers, ready.last)

    pub nothing-waits : is_idle bench ≡ true → turn_end (Ok None) latches values queues bench ≡ turn_of nets latches values queues bench
    unfolding turn_of turn_as turn_check
    nothing-waits n = rw (e, n) refl

    module _ (k : ℕ) (is : k ≡ next_machine bench) (not-idle : is_idle bench ≡ false) where
      next : Next bench k
      next = rw is (next-is bench not-idle)

      pub machine : k < 8
      machine = next.machine

      pub some : 0 < waiting_of k bench
      some = waits-some k bench next.waiting

      place : PlaceReady (part_of k nets) (waiting_of k bench) (part_of k queues)
      place = ready.places k machine

      pub slots : 64 * waiting_of k bench ≤ length (part_of k queues)
      slots = place.slots

      abbrev t : Tally
      t = tally_of k bench

      tests : turn_check nets latches values queues bench ≡ from_step (step_check (part_of k nets) (oldest k nets queues) (length (part_of k latches)) (length values) t)
      unfolding turn_check step_check oldest
      tests =
          rw (e, not-idle, ← is, place.netlist, oldest-right (part_of k nets) (waiting_of k bench) (part_of k queues) place some)
          (chain (has_latches (part_of k nets) (length (part_of k latches)) && has_values (part_of k nets) (length values)) (has_room t 1))

      module _ (r : Stepped) (l v : List ℕ) (er : r ≡ (step_for k nets latches values queues bench).answer)
          (el : l ≡ with_part k (step_for k nets latches values queues bench).latches latches) (ev : v ≡ (step_for k nets latches values queues bench).values) where
        pub refuses : (cause : Cause) → r.outcome ≡ Err cause → turn_end (Err (cause_of cause)) l v queues bench ≡ turn_of nets latches values queues bench
        unfolding turn_of turn_as step_for from_step
        refuses cause o =
            let s = step_refusal (part_of k nets) (oldest k nets queues) (part_of k latches) values t cause (ap (λ (z : Stepped). z.outcome) (sym er) ∙ o) in
            let c : turn_check nets latches values queues bench ≡ Err (cause_of cause) = tests ∙ ap from_step s.failed in
            rw (c, el, ev, s.latches-same, s.values_same, with_own k latches) refl

        passed : (w d : ℕ) → (step_for k nets latches values queues bench).answer.outcome ≡ Ok (w, d)
            → step_check (part_of k nets) (oldest k nets queues) (length (part_of k latches)) (length values) t ≡ Ok tt
        unfolding step_for
        passed w d o = step_output (part_of k nets) (oldest k nets queues) (part_of k latches) values t w d o

        pub serves : (w d : ℕ) → r.outcome ≡ Ok (w, d) → (q b : List ℕ)
            → q ≡ with_part k (shifted (waiting_of k bench - 1) (part_of k queues)) queues
            → b ≡ with_last k (with_tally k r.tally (with_waiting k (waiting_of k bench - 1) bench))
            → turn_end (Ok (Some (k, w, d))) l v q b ≡ turn_of nets latches values queues bench
        unfolding turn_of turn_as serve from_step first_word second_word
        serves w d o q b eq eb =
            let so : (step_for k nets latches values queues bench).answer.outcome ≡ Ok (w, d) = ap (λ (z : Stepped). z.outcome) (sym er) ∙ o in
            let s = passed w d so in
            let c : turn_check nets latches values queues bench ≡ Ok tt = tests ∙ ap from_step s in
            rw (c, not-idle, ← is, so, el, ev, eq, eb, er) refl
