-- Laws of the tests before a new cycle, over what the code has at hand. Assumes nothing.
use Rattle.std.specs.Prelude.{Result, Ok, Err}
use Rattle.bench_turns.specs.declared.Cause.{Cause}
use mathlib.Core.Path.{◌≡◌, refl, sym, ◌∙◌}
use mathlib.Core.Bool.{true, false, cond, not, ◌&&◌}
use mathlib.Core.List.{List}
use Prim.Native.Nat.{ℕ, ◌+◌, ◌*◌, ◌<◌, ◌≤◌}
use native.Mathlib.Omega.{arith}
use lib.Dec.{leb}
use lib.ListN.{length}
use borrow.Author.Tests.{le-leb, lt-leb}
use Rattle.netlist.specs.Layout.{input_count, latch_count}
use Rattle.trace.specs.Traces.{is_cycle}
use Rattle.calls.specs.declared.tally.Tally.{Tally}
use Rattle.calls.specs.Tallies.{has_room}
use Rattle.calls.specs.Refusals.{has_latches}
use Rattle.bench_turns.specs.declared.Cause.TheVariants.{NoMachine, NotBench, FullQueue, WrongCycle, ShortBuffer, FullTally}
use Rattle.bench_turns.specs.Parts.{width, part_of}
use Rattle.bench_turns.specs.Numbers.{waiting_of, tally_of, is_bench}
use Rattle.bench_turns.specs.Refusals.{has_slot, add_check}
use Rattle.bench_turns.specs.Add.{add_end, add_as, add_of}
use Rattle.bench_turns.specs.Parts.{with_part, placed}
use Rattle.bench_turns.specs.Numbers.{with_waiting}
use Rattle.netlist.proofs.ValidLaws.{valid}
use Rattle.trace.proofs.TraceLaws.{cycle-length}
use Rattle.bench_turns.proofs.PartLaws.{length_part}
use Rattle.bench_turns.proofs.CheckLaws.{add-passed}

-- the tests of a machine of a bench, for which n cycles wait, with i inputs and l latches; its latch words and its queue
-- are wl and wq long
abbrev pub machine_check : ℕ → ℕ → ℕ → ℕ → ℕ → Tally → List ℕ → Result Unit Cause
machine_check n i l wl wq t cycle =
    cond (not (leb (n + 1) 16)) (Err FullQueue)
    (cond (not (is_cycle i cycle)) (Err WrongCycle)
    (cond (not (leb l wl && leb (64 * (n + 1)) wq)) (Err ShortBuffer)
    (cond (not (has_room t (n + 1))) (Err FullTally)
    (Ok tt))))

-- what the code writes finds its place
pub record Placing (queues bench : List ℕ) (k : ℕ) (cycle : List ℕ) : Type 0 where
  pub machine : k < 8
  pub numbers : 33 ≤ length bench
  pub few : waiting_of k bench + 1 ≤ 16
  pub slot : 64 * waiting_of k bench + length cycle ≤ length (part_of k queues)

module _ (nets latches queues bench : List ℕ) (k : ℕ) (cycle : List ℕ) where
  -- 27 and 16 come first
  pub no_machine : 7 < k → Err NoMachine ≡ add_check nets latches queues bench k cycle
  unfolding add_check
  no_machine h = rw (lt-leb k 7 h)

  pub no_bench : k ≤ 7 → is_bench nets queues bench ≡ false → Err NotBench ≡ add_check nets latches queues bench k cycle
  unfolding add_check
  no_bench h e = rw (le-leb k 7 h, e)

  -- then those of the machine
  on-bench : k < 8 → is_bench nets queues bench ≡ true
      → add_check nets latches queues bench k cycle
      ≡ machine_check (waiting_of k bench) (input_count (part_of k nets)) (latch_count (part_of k nets)) (width latches) (width queues) (tally_of k bench) cycle
  unfolding add_check has_latches has_slot
  on-bench h e =
      let small : k ≤ 7 = omega arith in
      rw (le-leb k 7 small, e, length_part k latches h, length_part k queues h)

  module _ (h : k < 8) (e : is_bench nets queues bench ≡ true) (net : List ℕ) (is-net : net ≡ part_of k nets) (n : ℕ) (is-n : n ≡ waiting_of k bench) where
    told : (i l : ℕ) (t : Tally) → i ≡ input_count net → l ≡ latch_count net → t ≡ tally_of k bench
        → add_check nets latches queues bench k cycle ≡ machine_check n i l (width latches) (width queues) t cycle
    told i l t is-i is-l is-t = rw (is-n, is-i, is-l, is-t, is-net) (on-bench h e)

    pub queue-full : 16 ≤ n → Err FullQueue ≡ add_check nets latches queues bench k cycle
    queue-full f = rw (told _ _ _ refl refl refl, lt-leb (n + 1) 16 (omega arith))

    module _ (f : n < 16) (i : ℕ) (is-i : i ≡ input_count net) where
      abbrev free : leb (n + 1) 16 ≡ true
      free = le-leb (n + 1) 16 (omega arith)

      pub cycle-wrong : is_cycle i cycle ≡ false → Err WrongCycle ≡ add_check nets latches queues bench k cycle
      cycle-wrong c = rw (told i _ _ is-i refl refl, free, c)

      module _ (c : is_cycle i cycle ≡ true) (l : ℕ) (is-l : l ≡ latch_count net) where
        pub latches-short : width latches < l → Err ShortBuffer ≡ add_check nets latches queues bench k cycle
        latches-short s = rw (told i l _ is-i is-l refl, free, c, lt-leb l (width latches) s)

        module _ (s : l ≤ width latches) where
          pub slot_short : width queues < 64 * (n + 1) → Err ShortBuffer ≡ add_check nets latches queues bench k cycle
          slot_short q = rw (told i l _ is-i is-l refl, free, c, le-leb l (width latches) s, lt-leb (64 * (n + 1)) (width queues) q)

          module _ (q : 64 * (n + 1) ≤ width queues) (t : Tally) (is-t : t ≡ tally_of k bench) where
            pub tally-full : has_room t (n + 1) ≡ false → Err FullTally ≡ add_check nets latches queues bench k cycle
            tally-full r = rw (told i l t is-i is-l is-t, free, c, le-leb l (width latches) s, le-leb (64 * (n + 1)) (width queues) q, r)

            pub all-passed : has_room t (n + 1) ≡ true → Ok tt ≡ add_check nets latches queues bench k cycle
            all-passed r = rw (told i l t is-i is-l is-t, free, c, le-leb l (width latches) s, le-leb (64 * (n + 1)) (width queues) q, r)

  -- ---- the end of the call
  pub placing : (c : Result Unit Cause) → c ≡ add_check nets latches queues bench k cycle → c ≡ Ok tt → Placing queues bench k cycle
  placing c is e =
      let r = add-passed nets latches queues bench k cycle (sym is ∙ e) in
      let v = (valid (part_of k nets) (r.ready.places k r.machine).netlist).few in
      let l = cycle-length (input_count (part_of k nets)) cycle r.bits in
      let s = r.slot in
      record { machine = r.machine; numbers = r.ready.numbers; few = r.few; slot = omega arith }

  pub add-refuses : (c : Result Unit Cause) → c ≡ add_check nets latches queues bench k cycle → (cause : _) → c ≡ Err cause → add_end (Err cause) queues bench ≡ add_of nets latches queues bench k cycle
  unfolding add_of add_as
  add-refuses c is cause e = rw (sym is ∙ e) refl

  pub add-waits : (c : Result Unit Cause) → c ≡ add_check nets latches queues bench k cycle → c ≡ Ok tt → (q b : List ℕ)
      → q ≡ with_part k (placed (waiting_of k bench) cycle (part_of k queues)) queues → b ≡ with_waiting k (waiting_of k bench + 1) bench
      → add_end (Ok tt) q b ≡ add_of nets latches queues bench k cycle
  unfolding add_of add_as
  add-waits c is e q b eq eb = rw (sym is ∙ e, eq, eb) refl
