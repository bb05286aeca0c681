-- Whatever is called from eight starts with empty queues on, the bench keeps its claims. Assumes nothing.
use Rattle.std.specs.Prelude.{None, Result, Ok, Err}
use Rattle.calls.specs.declared.refusal.Cause.{Cause as CallCause}
use mathlib.Core.Path.{◌≡◌, refl, sym, ap, ap₂, subst, ◌∙◌}
use mathlib.Core.Bool.{Bool, true, false, cond, true≢false}
use mathlib.Core.Logic.{◌⊎◌, inl, inr}
use mathlib.Core.List.{List, [], ◌∷◌, ◌++◌, append_assoc, append-nil}
use Prim.Native.Nat.{ℕ, suc, ◌+◌, ◌-◌, ◌<◌, ◌≤◌}
use native.Mathlib.Omega.{arith}
use lib.Dec.{eqb}
use lib.ListN.{length, drop, length-append}
use borrow.Author.Tests.{eqb-false}
use Rattle.netlist.specs.Layout.{latch_count, maximum}
use Rattle.assertion.specs.Graph.{Graph, Cycle}
use Rattle.assertion.specs.Paths.{count_rejected, count_checked}
use Rattle.calls.specs.declared.tally.Tally.{Tally}
use Rattle.calls.specs.Tallies.{cleared, has_room}
use Rattle.calls.proofs.TallyLaws.{room-one}
use Rattle.calls.specs.Refusals.{start_check}
use Rattle.simulator.specs.Start.{StartEnd, start_words, start_as, start_of}
use Rattle.calls.proofs.RefusalLaws.{start-passed}
use Rattle.simulator.proofs.StartLaws.{length-starts}
use Rattle.demand.specs.Calls as demand
use Rattle.demand.specs.Calls.{Kept, called}
use Rattle.demand.specs.Demand.{Counted, kept_by, Demand3}
use Rattle.bench_turns.specs.Parts.{part_of, cycles_in, are_cycles}
use Rattle.bench_turns.specs.Numbers.{waiting_of, tally_of, last_of, is_bench}
use Rattle.bench_turns.specs.declared.Cause.{Cause}
use Rattle.bench_turns.specs.declared.Cause.TheVariants.{NotBench, ShortBuffer}
use Rattle.bench_turns.specs.Refusals.{next_machine}
use Rattle.bench_turns.specs.Turn.{TurnEnd, oldest, serve}
use Rattle.bench_turns.specs.Session.{Call, add_call, turn_call, Bench, add_on, turn_on, after, after_all, queue_of, arrived_by, arrived, served, accepted_as, accepted_by, accepted_turns}
use Rattle.bench_turns.specs.Answers.{distance, IsNext}
use Rattle.bench_turns.specs.Claims.{StartedPlace, Started, PathCount, BenchMeans, KeepsBench}
use Rattle.bench_turns.proofs.OwnSteps.{kept_of, steps_as, steps_by, steps, cycles_of, cycles-append, steps-served, kept_after, given}
use Rattle.bench_turns.proofs.PlaceLaws.{Good, Change, change_order, change_kept, change_given, change_good, change_waits}
use Rattle.bench_turns.proofs.RoundLaws.{next-is, next-told, waits_so, waits-some, not-idle, nearer}
use Rattle.bench_turns.proofs.CheckLaws.{ready-bench, add-bench, turn_short}
use Rattle.bench_turns.proofs.CallLaws.{place_of}
use Rattle.bench_turns.proofs.EndLaws.{SameRest, add_case, add_change, add-last, add-rest, add-refused, TurnCase, idles, refuses, serves, turn_case, turn_change, turn_last, turn_rest, turn_refused, turn_idle, served-last, turn_after}

-- ---- one call
module _ (nets : List ℕ) where
  change : (b : Bench) (x : Call) (k : ℕ) → k < 8 → Change (part_of k nets) (place_of k b) (place_of k (after nets b x)) (steps_by nets k b x) (arrived_by nets k b x)
  unfolding after steps_by arrived_by
  change b (add_call m c) k h = add_change nets b m c (add_on nets b m c) (add_case nets b m c) k h
  change b (turn_call values) k h = turn_change nets b values (turn_on nets b values) (turn_case nets b values) k h

  pub rest : (b : Bench) (x : Call) → SameRest b (after nets b x)
  unfolding after
  rest b (add_call m c) = add-rest nets b m c (add_on nets b m c) (add_case nets b m c)
  rest b (turn_call values) = turn_rest nets b values (turn_on nets b values) (turn_case nets b values)

  last-after : (b : Bench) (x : Call) → last_of b.numbers ≤ 7 → last_of (after nets b x).numbers ≤ 7
  unfolding after
  last-after b (add_call m c) l = rw (add-last nets b m c (add_on nets b m c) (add_case nets b m c)) l
  last-after b (turn_call values) l = turn_last nets b values (turn_on nets b values) (turn_case nets b values) l

-- ---- a good bench
record GoodBench (nets : List ℕ) (b : Bench) : Type 0 where
  numbers : 33 ≤ length b.numbers
  last : last_of b.numbers ≤ 7
  places : (k : ℕ) → k < 8 → Good (part_of k nets) (place_of k b)

module _ (nets : List ℕ) where
  good_after : (b : Bench) (x : Call) → GoodBench nets b → GoodBench nets (after nets b x)
  good_after b x g =
      record {
        numbers = rw (rest nets b x).bench-numbers g.numbers;
        last = last-after nets b x g.last;
        places = λ k h. change_good (part_of k nets) (g.places k h) (change nets b x k h);
      }

  good_all : (xs : List Call) (b : Bench) → GoodBench nets b → GoodBench nets (after_all nets b xs)
  unfolding after_all
  good_all [] b g = g
  good_all (x ∷ xs) b g = good_all xs (after nets b x) (good_after b x g)

  good_ready : (b : Bench) → GoodBench nets b → is_bench nets b.queues b.numbers ≡ true
  good_ready b g =
      ready-bench nets b.queues b.numbers
      (record {
        numbers = g.numbers;
        last = g.last;
        places = λ k h. let p = g.places k h in record { netlist = p.netlist; few = p.few; slots = p.slots; cycles = p.cycles };
      })

  -- ---- eight starts
  start-accepted : (net words : List ℕ) (t : Tally) → (start_of net words t).answer.outcome ≡ Ok tt → start_check net (length words) ≡ Ok tt
  unfolding start_of start_as
  start-accepted net words t e = by (start_check net (length words)) refl e
    where
      by : (k : Result Unit CallCause) → start_check net (length words) ≡ k → (start_as k net words t).answer.outcome ≡ Ok tt → start_check net (length words) ≡ Ok tt
      by (Ok tt) is f = is
      by (Err cause) is f = let z : ◌≡◌ {A = ℕ} 0 1 = cc in absurd (omega arith)

  start-latches : (net words : List ℕ) (t : Tally) → start_check net (length words) ≡ Ok tt
      → (latch_count net ≤ length (start_of net words t).latches) × ((start_of net words t).answer.tally ≡ cleared)
  unfolding start_of start_as
  start-latches net words t e =
      let s = start-passed net (length words) _ refl e in
      let n : latch_count net ≤ length (start_words net (latch_count net) ++ drop (latch_count net) words) = rw (length-append, length-starts net (latch_count net)) (omega arith) in
      rw e (n, refl)

  started-kept : (b : Bench) (k : ℕ) → (s : StartedPlace nets k b) → kept_of k b ≡ kept_by (start_of (part_of k nets) s.words s.before)
  unfolding kept_of
  started-kept b k s = sym (ap (λ (z : StartEnd). kept_by z) s.started)

  started-place : (b : Bench) (k : ℕ) → StartedPlace nets k b → Good (part_of k nets) (place_of k b)
  unfolding kept_of cycles_in are_cycles has_room
  started-place b k s =
      let net = part_of k nets in
      let passed = start-accepted net s.words s.before (ap (λ (z : StartEnd). z.answer.outcome) s.started) in
      let p = start-passed net (length s.words) _ refl passed in
      let l = start-latches net s.words s.before passed in
      let kept = started-kept b k s in
      let t : tally_of k b.numbers ≡ cleared = ap (λ (z : Kept). z.tally) kept ∙ l.1 in
      let e = s.empty in
      record {
        netlist = p.netlist;
        few = omega arith;
        slots = omega arith;
        cycles = rw e refl;
        latches = rw (ap (λ (z : Kept). length z.latches) kept) l.0;
        roomy = ap₂ has_room t e;
      }

  started_good : (b : Bench) → Started nets b → GoodBench nets b
  started_good b s = record { numbers = s.numbers; last = s.last; places = λ k h. started-place b k (s.places k h) }

-- ---- order of arrival
one-order : (nets : List ℕ) (k : ℕ) → k < 8 → (b : Bench) (x : Call) → GoodBench nets b
    → cycles_of (steps_by nets k b x) ++ queue_of nets k (after nets b x) ≡ queue_of nets k b ++ arrived_by nets k b x
unfolding queue_of
one-order nets k h b x g = change_order (part_of k nets) (g.places k h) (change nets b x k h)

module _ (nets : List ℕ) (k : ℕ) (h : k < 8) where
  abbrev net : List ℕ
  net = part_of k nets

  order : (xs : List Call) (b : Bench) → GoodBench nets b → cycles_of (steps nets k b xs) ++ queue_of nets k (after_all nets b xs) ≡ queue_of nets k b ++ arrived nets k b xs
  unfolding after_all steps arrived cycles_of
  order [] b g = sym (append-nil (queue_of nets k b))
  order (x ∷ xs) b g = joins b x xs g (order xs (after nets b x) (good_after nets b x g))
    where
      joins : (b : Bench) (x : Call) (xs : List Call) → GoodBench nets b
          → cycles_of (steps nets k (after nets b x) xs) ++ queue_of nets k (after_all nets (after nets b x) xs) ≡ queue_of nets k (after nets b x) ++ arrived nets k (after nets b x) xs
          → cycles_of (steps_by nets k b x ++ steps nets k (after nets b x) xs) ++ queue_of nets k (after_all nets (after nets b x) xs) ≡ queue_of nets k b ++ (arrived_by nets k b x ++ arrived nets k (after nets b x) xs)
      joins b x xs g ih =
          let s = cycles_of (steps_by nets k b x) in
          let s' = cycles_of (steps nets k (after nets b x) xs) in
          let q = queue_of nets k (after nets b x) in
          let q' = queue_of nets k (after_all nets (after nets b x) xs) in
          let a' = arrived nets k (after nets b x) xs in
          ap (λ (z : List Cycle). z ++ q') (cycles-append (steps_by nets k b x) (steps nets k (after nets b x) xs))
          ∙ append_assoc s s' q'
          ∙ ap (λ (z : List Cycle). s ++ z) ih
          ∙ sym (append_assoc s q a')
          ∙ ap (λ (z : List Cycle). z ++ a') (one-order nets k h b x g)
          ∙ append_assoc (queue_of nets k b) (arrived_by nets k b x) a'

-- ---- latch words and tally
kept_append : (net : List ℕ) (k : Kept) (a b : List demand.Call) → kept_after net k (a ++ b) ≡ kept_after net (kept_after net k a) b
unfolding kept_after
kept_append net k [] b = refl
kept_append net k (x ∷ a) b = kept_append net (called net k x).kept a b

given-append : (net : List ℕ) (k : Kept) (a b : List demand.Call) → given net k (a ++ b) ≡ given net k a ++ given net (kept_after net k a) b
unfolding kept_after given
given-append net k [] b = refl
given-append net k (x ∷ a) b =
    ap (λ (z : List Cycle). (called net k x).cycles ++ z) (given-append net (called net k x).kept a b)
    ∙ sym (append_assoc (called net k x).cycles (given net (called net k x).kept a) (given net (kept_after net (called net k x).kept a) b))

one_kept : (nets : List ℕ) (k : ℕ) → k < 8 → (b : Bench) (x : Call) → kept_of k (after nets b x) ≡ kept_after (part_of k nets) (kept_of k b) (steps_by nets k b x)
unfolding kept_of
one_kept nets k h b x = change_kept (part_of k nets) (change nets b x k h)

one-given : (nets : List ℕ) (k : ℕ) → k < 8 → (b : Bench) (x : Call) → given (part_of k nets) (kept_of k b) (steps_by nets k b x) ≡ cycles_of (steps_by nets k b x)
unfolding kept_of
one-given nets k h b x = change_given (part_of k nets) (change nets b x k h)

module _ (nets : List ℕ) (k : ℕ) (h : k < 8) where
  all-kept : (xs : List Call) (b : Bench) → kept_of k (after_all nets b xs) ≡ kept_after (part_of k nets) (kept_of k b) (steps nets k b xs)
  unfolding after_all steps kept_after
  all-kept [] b = refl
  all-kept (x ∷ xs) b =
      all-kept xs (after nets b x)
      ∙ ap (λ (z : Kept). kept_after (part_of k nets) z (steps nets k (after nets b x) xs)) (one_kept nets k h b x)
      ∙ sym (kept_append (part_of k nets) (kept_of k b) (steps_by nets k b x) (steps nets k (after nets b x) xs))

  all-given : (xs : List Call) (b : Bench) → given (part_of k nets) (kept_of k b) (steps nets k b xs) ≡ cycles_of (steps nets k b xs)
  unfolding steps given cycles_of
  all-given [] b = refl
  all-given (x ∷ xs) b =
      let s = steps_by nets k b x in
      let s' = steps nets k (after nets b x) xs in
      given-append (part_of k nets) (kept_of k b) s s'
      ∙ ap₂ ◌++◌ (one-given nets k h b x)
      (ap (λ (z : Kept). given (part_of k nets) z s') (sym (one_kept nets k h b x)) ∙ all-given xs (after nets b x))
      ∙ sym (cycles-append s s')

-- what demand 3 says of a list of calls, at its end
counted_end : (checked : Bool) (g : Graph) (net : List ℕ) (xs : List demand.Call) (seen : List Cycle) (k : Kept) → Counted checked g net seen k xs
    → ((kept_after net k xs).tally.cycles ≡ length (seen ++ given net k xs))
    × ((kept_after net k xs).tally.rejected ≡ count_rejected g (seen ++ given net k xs))
    × ((kept_after net k xs).tally.checked ≡ cond checked (count_checked g (seen ++ given net k xs)) 0)
unfolding Counted kept_after given
counted_end checked g net [] seen k c = rw append-nil c
counted_end checked g net (x ∷ xs) seen k c =
    rw (← (append_assoc seen (called net k x).cycles (given net (called net k x).kept xs)))
    (counted_end checked g net xs (seen ++ (called net k x).cycles) (called net k x).kept c.2)

path-count : (nets : List ℕ) (k : ℕ) → k < 8 → (b : Bench) → StartedPlace nets k b → (xs : List Call) (checked : Bool) (g : Graph) (made : ℕ) → Demand3 checked g (part_of k nets) made
    → PathCount checked g (served nets k b xs) (tally_of k (after_all nets b xs).numbers)
unfolding kept_of
path-count nets k h b s xs checked g made d =
    let e = ap (λ (z : StartEnd). z.answer.outcome) s.started in
    let c = counted_end checked g (part_of k nets) (steps nets k b xs) [] (kept_of k b) (rw (started-kept nets b k s) (d.counted s.words s.before e (steps nets k b xs))) in
    let kept = all-kept nets k h xs b in
    let gave = all-given nets k h xs b ∙ steps-served nets k xs b in
    record {
      cycles = ap (λ (z : Kept). z.tally.cycles) kept ∙ c.0 ∙ ap length gave;
      rejected = ap (λ (z : Kept). z.tally.rejected) kept ∙ c.1 ∙ ap (count_rejected g) gave;
      at_stake = ap (λ (z : Kept). z.tally.checked) kept ∙ c.2 ∙ ap (λ (z : List Cycle). cond checked (count_checked g z) 0) gave;
    }

-- ---- fairness
module _ (nets : List ℕ) (k : ℕ) (h : k < 8) where
  module _ (b : Bench) (values : List ℕ) (g : GoodBench nets b) (w : 0 < waiting_of k b.numbers) where
    abbrev stepped : demand.Call
    stepped = demand.step_call (oldest k nets b.queues) values

    abbrev next : ℕ
    next = next_machine b.numbers

    -- a turn that serves the next machine: it is k, or k is nearer then
    served_fair : (waiting n : ℕ) (ss : List demand.Call) → (0 < waiting → distance k next < n → 0 < length (cycles_of ss))
        → (t : Bool) → eqb next k ≡ t → (cond t (stepped ∷ []) [] ≡ [] → 0 < waiting)
        → distance k (last_of b.numbers) < 1 + n → 0 < length (cycles_of (cond t (stepped ∷ []) [] ++ ss))
    unfolding cycles_of
    served_fair waiting n ss ih true e stays l = omega arith
    served_fair waiting n ss ih false e stays l = by (nearer b.numbers k h g.last (waits_so k b.numbers w))
      where
        by : (next ≡ k) ⊎ (distance k next < distance k (last_of b.numbers)) → 0 < length (cycles_of ss)
        by (inl same) = absurd (eqb-false next k e same)
        by (inr d) = ih (stays refl) (omega arith)

    -- any turn, where the claim holds of every good bench after it
    turn_fair : (N : Bench → ℕ) (S : Bench → List demand.Call)
        → ((c : Bench) → GoodBench nets c → 0 < waiting_of k c.numbers → distance k (last_of c.numbers) < N c → 0 < length (cycles_of (S c)))
        → (e : TurnEnd) → TurnCase nets b values e → GoodBench nets (turn_after nets b values e)
        → (steps_as e.answer k stepped ≡ [] → 0 < waiting_of k e.bench)
        → distance k (last_of b.numbers) < accepted_as e.answer + N (turn_after nets b values e)
        → 0 < length (cycles_of (steps_as e.answer k stepped ++ S (turn_after nets b values e)))
    unfolding steps_as accepted_as serve
    turn_fair N S ih e (idles i) good stays l = absurd (true≢false (sym i ∙ not-idle b.numbers k h g.last (waits_so k b.numbers w)))
    turn_fair N S ih e (refuses cause f) good stays l = ih b g w (omega arith)
    turn_fair N S ih e (serves s) good stays l =
        let c = turn_after nets b values (serve next nets b.latches values b.queues b.numbers) in
        served_fair (waiting_of k c.numbers) (N c) (S c) (λ some d. ih c good some (rw (served-last nets b values s) d)) (eqb next k) refl stays l

  fair : (xs : List Call) (b : Bench) → GoodBench nets b → 0 < waiting_of k b.numbers → distance k (last_of b.numbers) < accepted_turns nets b xs → 0 < length (cycles_of (steps nets k b xs))
  unfolding accepted_turns accepted_by steps steps_by after
  fair [] b g w l = absurd (omega arith)
  fair (add_call m c ∷ xs) b g w l =
      let d = after nets b (add_call m c) in
      fair xs d (good_after nets b (add_call m c) g)
      (change_waits (part_of k nets) (change nets b (add_call m c) k h) w refl)
      (rw (add-last nets b m c (add_on nets b m c) (add_case nets b m c)) (omega arith))
  fair (turn_call values ∷ xs) b g w l =
      turn_fair b values g w (λ c. accepted_turns nets c xs) (λ c. steps nets k c xs) (λ c. fair xs c)
      (turn_on nets b values) (turn_case nets b values) (good_after nets b (turn_call values) g)
      (change_waits (part_of k nets) (change nets b (turn_call values) k h) w) l

  soon : (b : Bench) → GoodBench nets b → 0 < waiting_of k b.numbers → (xs : List Call) → 8 ≤ accepted_turns nets b xs → 0 < length (served nets k b xs)
  soon b g w xs l = subst (λ (z : List Cycle). 0 < length z) (steps-served nets k xs b) (fair xs b g w (omega arith))

  busy : (b : Bench) → GoodBench nets b → 0 < waiting_of k b.numbers → (values : List ℕ) → (turn_on nets b values).answer ≡ Ok None → ⊥
  busy b g w values e =
      true≢false (sym (turn_idle nets b values (turn_on nets b values) (turn_case nets b values) e).0 ∙ not-idle b.numbers k h g.last (waits_so k b.numbers w))

-- ---- what is refused
short-only : (nets : List ℕ) (b : Bench) → GoodBench nets b → (values : List ℕ) (cause : Cause) → (turn_on nets b values).answer ≡ Err cause
    → (k : ℕ) × (cause ≡ ShortBuffer) × IsNext k b.numbers × (length values < maximum (part_of k nets) + 1)
short-only nets b g values cause e =
    let k = next_machine b.numbers in
    let r = turn_refused nets b values (turn_on nets b values) (turn_case nets b values) cause e in
    let s = turn_short nets b.latches values b.queues b.numbers (good_ready nets b g)
    (λ busy.
    let n = next-is b.numbers busy in
    let p = g.places k n.machine in
    let some = waits-some k b.numbers n.waiting in
    let more : suc (waiting_of k b.numbers - 1) ≡ waiting_of k b.numbers = omega arith in
    (p.latches, room-one (tally_of k b.numbers) (waiting_of k b.numbers - 1) (subst (λ (z : ℕ). has_room (tally_of k b.numbers) z ≡ true) (sym more) p.roomy)))
    cause r.0 in
    (k, s.0, next-told b.numbers g.last s.1, s.2)

always_bench : (nets : List ℕ) (b : Bench) → GoodBench nets b → (k : ℕ) (cycle : Cycle) → (add_on nets b k cycle).answer ≡ Err NotBench → ⊥
always_bench nets b g k c e =
    add-bench nets b.latches b.queues b.numbers k c (good_ready nets b g) (add-refused nets b k c (add_on nets b k c) (add_case nets b k c) NotBench e).0

-- ---- the claim
empty-queue : (nets : List ℕ) (k : ℕ) (b : Bench) → waiting_of k b.numbers ≡ 0 → queue_of nets k b ≡ []
unfolding queue_of cycles_in
empty-queue nets k b e = rw e refl

pub bench-means : (nets : List ℕ) (b : Bench) → Started nets b → (xs : List Call) → BenchMeans nets b xs (after_all nets b xs)
bench-means nets b s xs =
    let g = started_good nets b s in
    let e = good_all nets xs b g in
    record {
      machines = λ k h.
          record {
            order = ap (λ (z : List Cycle). z ++ queue_of nets k (after_all nets b xs)) (sym (steps-served nets k xs b))
                ∙ order nets k h xs b g
                ∙ ap (λ (z : List Cycle). z ++ arrived nets k b xs) (empty-queue nets k b (s.places k h).empty);
            paths = path-count nets k h b (s.places k h) xs;
            soon = soon nets k h (after_all nets b xs) e;
            busy = busy nets k h (after_all nets b xs) e;
          };
      turns = short-only nets (after_all nets b xs) e;
      adds = always_bench nets (after_all nets b xs) e;
    }

-- one call more
after_more : (nets : List ℕ) (xs : List Call) (b : Bench) (x : Call) → after_all nets b (xs ++ (x ∷ [])) ≡ after nets (after_all nets b xs) x
unfolding after_all
after_more nets [] b x = refl
after_more nets (y ∷ xs) b x = after_more nets xs (after nets b y) x

pub keeps_bench : (nets : List ℕ) (b : Bench) (x : Call) (c : Bench) → c ≡ after nets b x → KeepsBench nets b x c
keeps_bench nets b x c is start xs s e =
    subst (λ (z : Bench). BenchMeans nets start (xs ++ (x ∷ [])) z) (after_more nets xs start x ∙ ap (λ (z : Bench). after nets z x) e ∙ sym is)
    (bench-means nets start s (xs ++ (x ∷ [])))
