-- Laws of a whole call: how it can end, and what each end does to every place. Assumes nothing.
use Rattle.std.specs.Prelude.{Option, Some, None, Err, Result, Ok}
use Rattle.calls.specs.declared.refusal.Cause.{Cause as CallCause}
use mathlib.Core.Path.{◌≡◌, refl, sym, ap, ap₂, ◌∙◌}
use mathlib.Core.Bool.{Bool, true, false}
use mathlib.Core.List.{List, []}
use Prim.Native.Nat.{ℕ, ◌+◌, ◌-◌, ◌*◌, ◌<◌, ◌≤◌}
use native.Mathlib.Omega.{arith}
use lib.Dec.{eqb}
use lib.ListN.{length, drop}
use Rattle.assertion.specs.Graph.{Cycle}
use Rattle.simulator.specs.Step.{StepEnd}
use Rattle.simulator.proofs.StepLaws.{step_is}
use Rattle.demand.specs.Calls as demand
use Rattle.bench_turns.specs.Parts.{width, part_of, shifted}
use Rattle.bench_turns.specs.Numbers.{waiting_of, tally_of, last_of}
use Rattle.bench_turns.specs.declared.Cause.{Cause}
use Rattle.bench_turns.specs.Refusals.{add_check, next_machine, is_idle, turn_check}
use Rattle.bench_turns.specs.Add.{AddEnd, add_end, add_as, add_of}
use Rattle.bench_turns.specs.Turn.{TurnEnd, turn_end, oldest, first_word, second_word, step_for, serve, turn_as, turn_of}
use Rattle.bench_turns.specs.Session.{Bench, add_on, turn_on, arrived_as}
use Rattle.bench_turns.proofs.OwnSteps.{steps_as}
use Rattle.bench_turns.proofs.PartLaws.{length_with, part-rest}
use Rattle.bench_turns.proofs.PlaceLaws.{Change, still}
use Rattle.bench_turns.proofs.RoundLaws.{waits-some, next-is}
use Rattle.bench_turns.proofs.CheckLaws.{AddReady, add-passed, TurnReady, turn_passed}
use Rattle.bench_turns.proofs.CallLaws.{place_of, part, part_length, grown_bench, grown_change, grown_last, grown_length, end_length, queue-length, step_accepted, end, moved_change, moved_waiting, moved_last, moved_length}

-- ---- lengths stay, and so does what is behind the eight parts
abbrev pub rest_of : List ℕ → List ℕ
rest_of xs = drop (8 * width xs) xs

pub record SameRest (b c : Bench) : Type 0 where
  pub latch_words : length c.latches ≡ length b.latches
  pub queue-bytes : length c.queues ≡ length b.queues
  pub bench-numbers : length c.numbers ≡ length b.numbers
  pub latches : rest_of c.latches ≡ rest_of b.latches
  pub queues : rest_of c.queues ≡ rest_of b.queues

same_rest : (b : Bench) → SameRest b b
same_rest b = record { latch_words = refl; queue-bytes = refl; bench-numbers = refl; latches = refl; queues = refl }

-- ---- how a new cycle can end
module _ (nets : List ℕ) (b : Bench) (m : ℕ) (c : Cycle) where
  abbrev pub add_after : AddEnd → Bench
  add_after e = record { latches = b.latches; queues = e.queues; numbers = e.bench }

  pub data AddCase : AddEnd → Type 0 where
    declined : (cause : Cause) → add_check nets b.latches b.queues b.numbers m c ≡ Err cause → AddCase (add_end (Err cause) b.queues b.numbers)
    joined : (r : AddReady nets b.latches b.queues b.numbers m c) → AddCase (add_end (Ok tt) (grown_bench nets b m c r).queues (grown_bench nets b m c r).numbers)

  pub add_case : AddCase (add_on nets b m c)
  unfolding add_of add_as
  add_case = by (add_check nets b.latches b.queues b.numbers m c) refl
    where
      by : (t : Result Unit Cause) → add_check nets b.latches b.queues b.numbers m c ≡ t → AddCase (add_as t b.queues b.numbers m c)
      by (Ok tt) e = joined (add-passed nets b.latches b.queues b.numbers m c e)
      by (Err cause) e = declined cause e

  pub add_change : (e : AddEnd) → AddCase e → (k : ℕ) → k < 8 → Change (part_of k nets) (place_of k b) (place_of k (add_after e)) [] (arrived_as e.answer m k c)
  unfolding arrived_as
  add_change e (declined cause f) k h = still
  add_change e (joined r) k h = grown_change nets b m c r k h (eqb m k) refl

  pub add-last : (e : AddEnd) → AddCase e → last_of e.bench ≡ last_of b.numbers
  add-last e (declined cause f) = refl
  add-last e (joined r) = grown_last nets b m c r

  pub add-rest : (e : AddEnd) → AddCase e → SameRest b (add_after e)
  add-rest e (declined cause f) = same_rest b
  add-rest e (joined r) =
      let l = part_length nets b m c r in
      let p = part nets b m c r in
      record {
        latch_words = refl;
        queue-bytes = length_with m p b.queues r.machine l;
        bench-numbers = grown_length nets b m c r;
        latches = refl;
        queues = part-rest m p b.queues r.machine l;
      }

  pub add-refused : (e : AddEnd) → AddCase e → (cause : Cause) → e.answer ≡ Err cause
      → (add_check nets b.latches b.queues b.numbers m c ≡ Err cause) × (e ≡ add_end (Err cause) b.queues b.numbers)
  add-refused e (declined other f) cause is =
      let same : other ≡ cause = cc in
      (f ∙ ap Err same, ap (λ (z : Result Unit Cause). add_end z b.queues b.numbers) is)
  add-refused e (joined r) cause is = let z : ◌≡◌ {A = ℕ} 0 1 = cc in absurd (omega arith)

-- ---- how a turn can end
module _ (nets : List ℕ) (b : Bench) (values : List ℕ) where
  abbrev pub turn_after : TurnEnd → Bench
  turn_after e = record { latches = e.latches; queues = e.queues; numbers = e.bench }

  abbrev next : ℕ
  next = next_machine b.numbers

  pub record Serving : Type 0 where
    pub busy : is_idle b.numbers ≡ false
    pub machine : next < 8
    pub waiting : 0 < waiting_of next b.numbers
    pub ready : TurnReady next nets b.latches values b.queues b.numbers

  pub data TurnCase : TurnEnd → Type 0 where
    idles : is_idle b.numbers ≡ true → TurnCase (turn_end (Ok None) b.latches values b.queues b.numbers)
    refuses : (cause : Cause) → turn_check nets b.latches values b.queues b.numbers ≡ Err cause → TurnCase (turn_end (Err cause) b.latches values b.queues b.numbers)
    serves : Serving → TurnCase (serve next nets b.latches values b.queues b.numbers)

  pub turn_case : TurnCase (turn_on nets b values)
  unfolding turn_of turn_as
  turn_case = by (turn_check nets b.latches values b.queues b.numbers) refl (is_idle b.numbers) refl
    where
      by : (t : Result Unit Cause) → turn_check nets b.latches values b.queues b.numbers ≡ t → (i : Bool) → is_idle b.numbers ≡ i
          → TurnCase (turn_as t i nets b.latches values b.queues b.numbers)
      by (Err cause) e i f = refuses cause e
      by (Ok tt) e true f = idles f
      by (Ok tt) e false f =
          let n = next-is b.numbers f in
          serves (record { busy = f; machine = n.machine; waiting = waits-some next b.numbers n.waiting; ready = turn_passed nets b.latches values b.queues b.numbers e f })

  abbrev outcome : ℕ → Result (ℕ × ℕ) CallCause
  outcome m = (step_for m nets b.latches values b.queues b.numbers).answer.outcome

  pub record ServedSo (m w c : ℕ) (e : TurnEnd) : Type 0 where
    pub is-next : next ≡ m
    pub serving : Serving
    pub words : (step_for m nets b.latches values b.queues b.numbers).answer.outcome ≡ Ok (w, c)
    pub last : last_of e.bench ≡ m
    pub frees : waiting_of m e.bench + 1 ≡ waiting_of m b.numbers

  module _ (s : Serving) where
    served-words : outcome next ≡ Ok (first_word (outcome next), second_word (outcome next))
    unfolding step_for oldest first_word second_word
    served-words =
        let e = step_is (part_of next nets) (oldest next nets b.queues) (part_of next b.latches) values (tally_of next b.numbers) (step_accepted nets b values next s.machine s.waiting s.ready) in
        ap (λ (z : StepEnd). z.answer.outcome) (sym e) ∙ ap (λ (z : StepEnd). Ok (first_word z.answer.outcome, second_word z.answer.outcome)) e

    served_so : (m w c : ℕ) → ◌≡◌ {A = Result (Option (ℕ × ℕ × ℕ)) Cause} (Ok (Some (next, first_word (outcome next), second_word (outcome next)))) (Ok (Some (m, w, c)))
        → ServedSo m w c (serve next nets b.latches values b.queues b.numbers)
    unfolding serve step_for oldest
    served_so m w c is =
        let p : ◌≡◌ {A = ℕ × ℕ × ℕ} (next, first_word (outcome next), second_word (outcome next)) (m, w, c) = cc in
        let a = ap (λ (q : ℕ × ℕ × ℕ). q.0) p in
        let u = ap (λ (q : ℕ × ℕ × ℕ). q.1) p in
        let v = ap (λ (q : ℕ × ℕ × ℕ). q.2) p in
        let n = moved_waiting nets b values next s.machine s.waiting s.ready in
        let some = s.waiting in
        record {
          is-next = a;
          serving = s;
          words = rw (← a) (served-words ∙ ap₂ (λ (x y : ℕ). Ok (x, y)) u v);
          last = moved_last nets b values next s.machine s.waiting s.ready ∙ a;
          frees = rw (← a) (rw n (omega arith));
        }

  pub turn_change : (e : TurnEnd) → TurnCase e → (k : ℕ) → k < 8
      → Change (part_of k nets) (place_of k b) (place_of k (turn_after e)) (steps_as e.answer k (demand.step_call (oldest k nets b.queues) values)) []
  unfolding steps_as serve step_for oldest
  turn_change e (idles i) k h = still
  turn_change e (refuses cause f) k h = still
  turn_change e (serves s) k h = moved_change nets b values next s.machine s.waiting s.ready k h (eqb next k) refl

  pub turn_last : (e : TurnEnd) → TurnCase e → last_of b.numbers ≤ 7 → last_of e.bench ≤ 7
  unfolding serve step_for oldest
  turn_last e (idles i) l = l
  turn_last e (refuses cause f) l = l
  turn_last e (serves s) l = let m = moved_last nets b values next s.machine s.waiting s.ready in let h = s.machine in rw m (omega arith)

  pub served-last : Serving → last_of (serve next nets b.latches values b.queues b.numbers).bench ≡ next
  unfolding serve step_for oldest
  served-last s = moved_last nets b values next s.machine s.waiting s.ready

  pub turn_rest : (e : TurnEnd) → TurnCase e → SameRest b (turn_after e)
  unfolding serve step_for oldest
  turn_rest e (idles i) = same_rest b
  turn_rest e (refuses cause f) = same_rest b
  turn_rest e (serves s) =
      let n = waiting_of next b.numbers - 1 in
      let l = end_length nets b values next s.machine s.waiting s.ready in
      let q = queue-length nets b values next s.machine s.waiting s.ready in
      let d = end nets b values next s.machine s.waiting s.ready in
      record {
        latch_words = length_with next d.latches b.latches s.machine l;
        queue-bytes = length_with next (shifted n (part_of next b.queues)) b.queues s.machine q;
        bench-numbers = moved_length nets b values next s.machine s.waiting s.ready;
        latches = part-rest next d.latches b.latches s.machine l;
        queues = part-rest next (shifted n (part_of next b.queues)) b.queues s.machine q;
      }

  pub turn_refused : (e : TurnEnd) → TurnCase e → (cause : Cause) → e.answer ≡ Err cause
      → (turn_check nets b.latches values b.queues b.numbers ≡ Err cause) × (e ≡ turn_end (Err cause) b.latches values b.queues b.numbers)
  unfolding serve
  turn_refused e (idles i) cause is = let z : ◌≡◌ {A = ℕ} 0 1 = cc in absurd (omega arith)
  turn_refused e (refuses other f) cause is =
      let same : other ≡ cause = cc in
      (f ∙ ap Err same, ap (λ (z : Result (Option (ℕ × ℕ × ℕ)) Cause). turn_end z b.latches values b.queues b.numbers) is)
  turn_refused e (serves s) cause is = let z : ◌≡◌ {A = ℕ} 0 1 = cc in absurd (omega arith)

  pub turn_idle : (e : TurnEnd) → TurnCase e → e.answer ≡ Ok None → (is_idle b.numbers ≡ true) × (e ≡ turn_end (Ok None) b.latches values b.queues b.numbers)
  unfolding serve
  turn_idle e (idles i) is = (i, refl)
  turn_idle e (refuses cause f) is = let z : ◌≡◌ {A = ℕ} 0 1 = cc in absurd (omega arith)
  turn_idle e (serves s) is = let z : ◌≡◌ {A = ℕ} 0 1 = cc in absurd (omega arith)

  pub turn_served : (e : TurnEnd) → TurnCase e → (m w c : ℕ) → e.answer ≡ Ok (Some (m, w, c)) → ServedSo m w c e
  unfolding serve
  turn_served e (idles i) m w c is = let z : ◌≡◌ {A = ℕ} 0 1 = cc in absurd (omega arith)
  turn_served e (refuses cause f) m w c is = let z : ◌≡◌ {A = ℕ} 0 1 = cc in absurd (omega arith)
  turn_served e (serves s) m w c is = served_so s m w c is
