-- Laws of a call: what it does to each place. Assumes nothing.
use Rattle.std.specs.Prelude.{Ok}
use mathlib.Core.Path.{◌≡◌, refl, sym, ap, subst, ◌∙◌}
use mathlib.Core.Bool.{Bool, true, false, cond}
use mathlib.Core.List.{List, [], ◌∷◌}
use Prim.Native.Nat.{ℕ, suc, ◌+◌, ◌-◌, ◌*◌, ◌<◌, ◌≤◌}
use native.Mathlib.Omega.{arith}
use lib.Dec.{eqb}
use lib.ListN.{length, get_or, length-set}
use lib.Seq.{get_or-set_same, get_or-set_other}
use borrow.Author.Tests.{eqb-true, eqb-false}
use Rattle.netlist.specs.Layout.{input_count}
use Rattle.netlist.proofs.ValidLaws.{valid}
use Rattle.assertion.specs.Graph.{Cycle}
use Rattle.calls.specs.declared.tally.Tally.{Tally}
use Rattle.calls.specs.Refusals.{step_check}
use Rattle.simulator.specs.Step.{StepEnd}
use Rattle.trace.proofs.TraceLaws.{cycle-length}
use Rattle.simulator.proofs.CycleLaws.{latches-length}
use Rattle.calls.proofs.RefusalLaws.{step_passes}
use Rattle.simulator.proofs.StepLaws.{step_is}
use Rattle.demand.specs.Calls as demand
use Rattle.bench_turns.specs.Parts.{width, part_of, with_part, cycles_in, are_cycles, placed, shifted}
use Rattle.bench_turns.specs.Numbers.{waiting_of, tally_of, last_of, with_waiting, with_tally, with_last}
use Rattle.bench_turns.specs.Session.{Bench}
use Rattle.bench_turns.specs.Answers.{Untouched}
use Rattle.bench_turns.proofs.PartLaws.{length_part, part_same, part-other}
use Rattle.bench_turns.proofs.QueueLaws.{placed-length, shifted-cycles, shifted-length, are-first}
use Rattle.bench_turns.proofs.NumberLaws.{turned_length, turned_other, turned_waiting, turned_tally, turned_last, same_tally}
use Rattle.bench_turns.proofs.PlaceLaws.{Place, first, grown, step_in, moved_to, Change, still, grows, moves}
use Rattle.bench_turns.proofs.CheckLaws.{PlaceReady, AddReady, TurnReady}

abbrev pub place_of : ℕ → Bench → Place
place_of k b =
    record { latches = part_of k b.latches; queue = part_of k b.queues; waiting = waiting_of k b.numbers; tally = tally_of k b.numbers }

same_place : (l l' q q' : List ℕ) (n n' : ℕ) (t t' : Tally) → l ≡ l' → q ≡ q' → n ≡ n' → t ≡ t'
    → ◌≡◌ {A = Place} (record { latches = l; queue = q; waiting = n; tally = t }) (record { latches = l'; queue = q'; waiting = n'; tally = t' })
same_place l l' q q' n n' t t' a b d e = rw (a, b, d, e)

pub untouched_place : (k : ℕ) (b c : Bench) → Untouched k b c → place_of k c ≡ place_of k b
untouched_place k b c u = same_place _ _ _ _ _ _ _ _ u.latches u.queue u.waiting u.tally

-- ---- a new cycle for machine m
module _ (nets : List ℕ) (b : Bench) (m : ℕ) (c : Cycle) (r : AddReady nets b.latches b.queues b.numbers m c) where
  abbrev n : ℕ
  n = waiting_of m b.numbers

  abbrev pub part : List ℕ
  part = placed n c (part_of m b.queues)

  abbrev pub grown_bench : Bench
  grown_bench = record { latches = b.latches; queues = with_part m part b.queues; numbers = with_waiting m (n + 1) b.numbers }

  pub part_length : length part ≡ width b.queues
  part_length =
      placed-length (input_count (part_of m nets)) n c (part_of m b.queues) (valid (part_of m nets) (r.ready.places m r.machine).netlist).few (cycle-length (input_count (part_of m nets)) c r.bits) r.slot
      ∙ length_part m b.queues r.machine

  number-other : (i : ℕ) → (i ≡ 4 * m → ⊥) → get_or grown_bench.numbers i 0 ≡ get_or b.numbers i 0
  number-other i ne = get_or-set_other b.numbers (4 * m) i (n + 1) 0 ne

  pub grown_other : (k : ℕ) → k < 8 → (k ≡ m → ⊥) → Untouched k b grown_bench
  grown_other k h ne =
      record {
        latches = refl;
        queue = part-other k m part b.queues h r.machine ne part_length;
        waiting = number-other (4 * k) (λ e. ne (omega arith));
        tally = same_tally _ _ (number-other (4 * k + 1) (λ e. omega arith)) (number-other (4 * k + 2) (λ e. omega arith)) (number-other (4 * k + 3) (λ e. omega arith));
      }

  pub grown_own : place_of m grown_bench ≡ grown c (place_of m b)
  grown_own =
      let l = r.ready.numbers in
      let h = r.machine in
      same_place _ _ _ _ _ _ _ _ refl
      (part_same m part b.queues r.machine part_length)
      (get_or-set_same b.numbers (4 * m) (n + 1) 0 (omega arith))
      (same_tally _ _ (number-other (4 * m + 1) (λ e. omega arith)) (number-other (4 * m + 2) (λ e. omega arith)) (number-other (4 * m + 3) (λ e. omega arith)))

  pub grown_last : last_of grown_bench.numbers ≡ last_of b.numbers
  grown_last = let h = r.machine in number-other 32 (λ e. omega arith)

  pub grown_length : length grown_bench.numbers ≡ length b.numbers
  grown_length = length-set b.numbers (4 * m) (n + 1)

  pub grown_change : (k : ℕ) → k < 8 → (t : Bool) → eqb m k ≡ t → Change (part_of k nets) (place_of k b) (place_of k grown_bench) [] (cond t (c ∷ []) [])
  grown_change k h true e =
      subst (λ (z : ℕ). Change (part_of z nets) (place_of z b) (place_of z grown_bench) [] (c ∷ [])) (eqb-true m k e)
      (subst (λ (q : Place). Change (part_of m nets) (place_of m b) q [] (c ∷ [])) (sym grown_own)
      (grows c r.bits r.few r.slot r.room))
  grown_change k h false e =
      subst (λ (q : Place). Change (part_of k nets) (place_of k b) q [] []) (sym (untouched_place k b grown_bench (grown_other k h (λ s. eqb-false m k e (sym s))))) still

-- ---- a turn that serves machine m
module _ (nets : List ℕ) (b : Bench) (values : List ℕ) (m : ℕ) (small : m < 8) (some : 0 < waiting_of m b.numbers) (r : TurnReady m nets b.latches values b.queues b.numbers) where
  abbrev net : List ℕ
  net = part_of m nets

  abbrev place : Place
  place = place_of m b

  abbrev left : ℕ
  left = waiting_of m b.numbers - 1

  ready : PlaceReady net (waiting_of m b.numbers) (part_of m b.queues)
  ready = r.ready.places m small

  few : input_count net ≤ 64
  few = (valid net ready.netlist).few

  slots : 64 * suc left ≤ length (part_of m b.queues)
  slots = let s = ready.slots in omega arith

  bits : Rattle.trace.specs.Traces.is_cycle (input_count net) (first net place) ≡ true
  bits =
      let s : suc left ≡ waiting_of m b.numbers = omega arith in
      (are-first (input_count net) (first net place) (cycles_in (input_count net) left (shifted left (part_of m b.queues)))
      (subst (λ (z : List Cycle). are_cycles (input_count net) z ≡ true)
      (ap (λ (z : ℕ). cycles_in (input_count net) z (part_of m b.queues)) (sym s) ∙ shifted-cycles (input_count net) left (part_of m b.queues) few slots) ready.cycles)
      ).0

  -- the step on its parts is accepted
  pub step_accepted : step_check net (first net place) (length place.latches) (length values) place.tally ≡ Ok tt
  step_accepted =
      step_passes net (first net place) (length place.latches) (length values) place.tally
      (record { netlist = ready.netlist; bits = bits; latches = r.held; values = r.lent; room = r.room })

  abbrev pub end : StepEnd
  end = step_in net values place

  pub end_length : length end.latches ≡ width b.latches
  end_length =
      ap (λ (z : StepEnd). length z.latches) (sym (step_is net (first net place) place.latches values place.tally step_accepted))
      ∙ latches-length net (first net place) place.latches values (valid net ready.netlist) (cycle-length (input_count net) (first net place) bits) r.held
      ∙ length_part m b.latches small

  pub queue-length : length (shifted left (part_of m b.queues)) ≡ width b.queues
  queue-length = shifted-length (input_count net) left (part_of m b.queues) few slots ∙ length_part m b.queues small

  abbrev pub moved_bench : Bench
  moved_bench =
      record {
        latches = with_part m end.latches b.latches;
        queues = with_part m (shifted left (part_of m b.queues)) b.queues;
        numbers = with_last m (with_tally m end.answer.tally (with_waiting m left b.numbers));
      }

  long : 33 ≤ length b.numbers
  long = r.ready.numbers

  number_same : (k n : ℕ) → k < 8 → n < 4 → (k ≡ m → ⊥) → get_or moved_bench.numbers (4 * k + n) 0 ≡ get_or b.numbers (4 * k + n) 0
  number_same = turned_other m left end.answer.tally b.numbers small long

  pub moved_other : (k : ℕ) → k < 8 → (k ≡ m → ⊥) → Untouched k b moved_bench
  moved_other k h ne =
      record {
        latches = part-other k m end.latches b.latches h small ne end_length;
        queue = part-other k m (shifted left (part_of m b.queues)) b.queues h small ne queue-length;
        waiting = ap (λ (i : ℕ). get_or moved_bench.numbers i 0) (omega arith) ∙ number_same k 0 h (omega arith) ne ∙ ap (λ (i : ℕ). get_or b.numbers i 0) (omega arith);
        tally = same_tally _ _ (number_same k 1 h (omega arith) ne) (number_same k 2 h (omega arith) ne) (number_same k 3 h (omega arith) ne);
      }

  pub moved_own : place_of m moved_bench ≡ moved_to end place
  moved_own =
      same_place _ _ _ _ _ _ _ _
      (part_same m end.latches b.latches small end_length)
      (part_same m (shifted left (part_of m b.queues)) b.queues small queue-length)
      (turned_waiting m left end.answer.tally b.numbers small long)
      (turned_tally m left end.answer.tally b.numbers small long)

  pub moved_waiting : waiting_of m moved_bench.numbers ≡ left
  moved_waiting = turned_waiting m left end.answer.tally b.numbers small long

  pub moved_last : last_of moved_bench.numbers ≡ m
  moved_last = turned_last m left end.answer.tally b.numbers small long

  pub moved_length : length moved_bench.numbers ≡ length b.numbers
  moved_length = turned_length m left end.answer.tally b.numbers small long

  pub moved_change : (k : ℕ) → k < 8 → (t : Bool) → eqb m k ≡ t → Change (part_of k nets) (place_of k b) (place_of k moved_bench) (cond t (demand.step_call (first (part_of k nets) (place_of k b)) values ∷ []) []) []
  moved_change k h true e =
      subst (λ (z : ℕ). Change (part_of z nets) (place_of z b) (place_of z moved_bench) (demand.step_call (first (part_of z nets) (place_of z b)) values ∷ []) []) (eqb-true m k e)
      (subst (λ (q : Place). Change net place q (demand.step_call (first net place) values ∷ []) []) (sym moved_own) (moves values some step_accepted))
  moved_change k h false e =
      subst (λ (q : Place). Change (part_of k nets) (place_of k b) q [] []) (sym (untouched_place k b moved_bench (moved_other k h (λ s. eqb-false m k e (sym s))))) still
