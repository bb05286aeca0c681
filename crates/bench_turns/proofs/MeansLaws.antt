-- What a call says of its own answer. Assumes nothing.
use Rattle.std.specs.Prelude.{Some, None, Ok, Err, Result}
use Rattle.calls.specs.declared.refusal.Cause.{Cause as CallCause}
use mathlib.Core.Path.{◌≡◌, refl, sym, ap, subst, ◌∙◌}
use mathlib.Core.Bool.{true, false}
use mathlib.Core.List.{List, ◌∷◌}
use Prim.Native.Nat.{ℕ, suc, ◌-◌, ◌<◌}
use native.Mathlib.Omega.{arith}
use lib.ListN.{take}
use Rattle.netlist.specs.Layout.{input_count}
use Rattle.netlist.proofs.ValidLaws.{valid}
use Rattle.assertion.specs.Graph.{Cycle}
use Rattle.calls.specs.declared.tally.Tally.{Tally}
use Rattle.trace.proofs.TraceLaws.{cycle-length}
use Rattle.simulator.specs.Step.{StepEnd, step_end}
use Rattle.bench_turns.specs.declared.Cause.{Cause}
use Rattle.bench_turns.specs.Parts.{part_of, cycles_in}
use Rattle.bench_turns.specs.Numbers.{waiting_of}
use Rattle.bench_turns.specs.Refusals.{refusal_of, add_check, next_machine, is_idle, turn_check}
use Rattle.bench_turns.specs.Add.{AddEnd, add_as, add_of}
use Rattle.bench_turns.specs.Turn.{TurnEnd, oldest, step_for, serve, turn_as, turn_of}
use Rattle.bench_turns.specs.Session.{add_call, turn_call, Bench, bench_of, add_on, turn_on, after, queue_of}
use Rattle.bench_turns.specs.Answers.{distance, Joins, AddMeans, Serves, TurnMeans, AddRefuses, TurnRefuses}
use Rattle.bench_turns.specs.Claims.{KeepsBench}
use Rattle.bench_turns.proofs.QueueLaws.{placed-cycles, shifted-cycles}
use Rattle.bench_turns.proofs.PlaceLaws.{Place}
use Rattle.bench_turns.proofs.CheckLaws.{AddReady}
use Rattle.bench_turns.proofs.RoundLaws.{next-told}
use Rattle.bench_turns.proofs.CallLaws.{grown_bench, grown_own, grown_other, grown_last, moved_own, moved_other, moved_last, moved_waiting}
use Rattle.bench_turns.proofs.EndLaws.{add_after, AddCase, declined, joined, add_case, Serving, turn_after, TurnCase, idles, refuses, serves, turn_case, turn_served, ServedSo}
use Rattle.bench_turns.proofs.SessionLaws.{keeps_bench}
use Rattle.bench_turns.proofs.TestedLaws.{add_tested, turn_tested}

-- ---- a new cycle
module _ (nets : List ℕ) (b : Bench) (k : ℕ) (cycle : Cycle) where
  joins_so : (r : AddReady nets b.latches b.queues b.numbers k cycle) → Joins nets b k cycle (grown_bench nets b k cycle r)
  unfolding queue_of
  joins_so r =
      let g = grown_own nets b k cycle r in
      let n = waiting_of k b.numbers in
      let q = part_of k b.queues in
      let i = input_count (part_of k nets) in
      record {
        queue = ap (λ (p : Place). cycles_in i p.waiting p.queue) g
            ∙ placed-cycles i n cycle q (valid (part_of k nets) (r.ready.places k r.machine).netlist).few (cycle-length i cycle r.bits) r.slot;
        latches = refl;
        tally = ap (λ (p : Place). p.tally) g;
        last = grown_last nets b k cycle r;
        others = grown_other nets b k cycle r;
      }

  abbrev check : Result Unit Cause
  check = add_check nets b.latches b.queues b.numbers k cycle

  pub add-told : (cause : Cause) → check ≡ Err cause → (add_on nets b k cycle).answer ≡ Err cause
  unfolding add_of add_as
  add-told cause e = rw e refl

  pub add-took : check ≡ Ok tt → (add_on nets b k cycle).answer ≡ Ok tt
  unfolding add_of add_as
  add-took e = rw e refl

  -- where `Waits` and `Refuses` say what is answered
  module _ (Waits : Type 0) (Refuses : ℕ → ℕ → Type 0) where
    add-ends : (e : AddEnd) → AddCase nets b k cycle e → (e.answer ≡ Ok tt → Waits) → (Waits → e.answer ≡ Ok tt)
        → (Waits → Joins nets b k cycle (add_after nets b k cycle e)) × ((Waits → ⊥) → add_after nets b k cycle e ≡ b)
    add-ends e (declined cause f) took says = ((λ w. let s = says w in let z : ◌≡◌ {A = ℕ} 0 1 = cc in absurd (omega arith)), (λ n. refl))
    add-ends e (joined r) took says = ((λ w. joins_so r), (λ n. absurd (n (took refl))))

    pub add-means : ((add_on nets b k cycle).answer ≡ Ok tt → Waits) → (Waits → (add_on nets b k cycle).answer ≡ Ok tt)
        → ((cause : Cause) → (add_on nets b k cycle).answer ≡ Err cause → Refuses (refusal_of cause).number (refusal_of cause).line)
        → AddMeans nets b k cycle Waits Refuses (after nets b (add_call k cycle))
    unfolding after
    add-means took says told =
        let e = add-ends (add_on nets b k cycle) (add_case nets b k cycle) took says in
        record {
          no_bench = (add_tested nets b k cycle Waits (λ cause. Refuses) (λ c. took (add-took c)) (λ cause c. told cause (add-told cause c))).no_bench;
          joins = e.0;
          kept = e.1;
        }

-- of add's own answer
pub add_claims : (nets latches queues bench : List ℕ) (k : ℕ) (cycle : Cycle) (e : AddEnd) → e ≡ add_of nets latches queues bench k cycle
    → AddMeans nets (bench_of latches queues bench) k cycle (e.answer ≡ Ok tt) (AddRefuses e.answer) (bench_of latches e.queues e.bench)
    × KeepsBench nets (bench_of latches queues bench) (add_call k cycle) (bench_of latches e.queues e.bench)
unfolding after
add_claims nets latches queues bench k cycle e is =
    let b = bench_of latches queues bench in
    rw is (add-means nets b k cycle _ _ (λ w. w) (λ w. w) (λ cause t. (cause, t, refl)), keeps_bench nets b (add_call k cycle) _ refl)

-- ---- a turn
step_parts : (e : StepEnd) (o : Result (ℕ × ℕ) CallCause) (t : Tally) (l v : List ℕ) → e.answer.outcome ≡ o → t ≡ e.answer.tally → l ≡ e.latches → v ≡ e.values
    → e ≡ step_end (record { outcome = o; tally = t }) l v
step_parts e o t l v a b c d = rw (← a, b, c, d) refl

module _ (nets : List ℕ) (b : Bench) (values : List ℕ) where
  abbrev next : ℕ
  next = next_machine b.numbers

  abbrev checked : Result Unit Cause
  checked = turn_check nets b.latches values b.queues b.numbers

  abbrev end : TurnEnd
  end = serve next nets b.latches values b.queues b.numbers

  from_seven : (j m : ℕ) → m < 8 → j < m → distance j 7 < distance m 7
  from_seven j m h l = omega arith

  served_so : (s : Serving nets b values) (m w v : ℕ) → ServedSo nets b values m w v end → Serves nets b values m w v (turn_after nets b values end) end.values
  unfolding serve step_for oldest queue_of
  served_so s m w v so =
      let is = so.is-next in
      let t = next-told b.numbers s.ready.ready.last s.busy in
      let o = moved_own nets b values next s.machine s.waiting s.ready in
      let p = s.ready.ready.places next s.machine in
      let n = waiting_of next b.numbers - 1 in
      let some = s.waiting in
      let e : suc n ≡ waiting_of next b.numbers = omega arith in
      let i = input_count (part_of next nets) in
      let sl = p.slots in
      subst (λ (z : ℕ). Serves nets b values z w v (turn_after nets b values end) end.values) is
      (record {
        next = t;
        from_zero = λ seven j h. t.first j (omega (arith, s.machine)) (rw seven (from_seven j next s.machine h));
        cycle = take i (part_of next b.queues);
        queue = ap (λ (z : ℕ). cycles_in i z (part_of next b.queues)) (sym e)
            ∙ shifted-cycles i n (part_of next b.queues) (valid (part_of next nets) p.netlist).few (omega arith)
            ∙ ap (λ (q : Place). take i (part_of next b.queues) ∷ cycles_in i q.waiting q.queue) (sym o);
        frees = rw (moved_waiting nets b values next s.machine s.waiting s.ready) (omega arith);
        stepped = step_parts _ _ _ _ _ (rw is so.words) (ap (λ (q : Place). q.tally) o) (ap (λ (q : Place). q.latches) o) refl;
        last = moved_last nets b values next s.machine s.waiting s.ready;
        others = moved_other nets b values next s.machine s.waiting s.ready;
      })

  pub turn_told : (cause : Cause) → checked ≡ Err cause → (turn_on nets b values).answer ≡ Err cause
  unfolding turn_of turn_as
  turn_told cause e = rw e refl

  pub turn_idles : checked ≡ Ok tt → is_idle b.numbers ≡ true → (turn_on nets b values).answer ≡ Ok None
  unfolding turn_of turn_as
  turn_idles e i = rw (e, i) refl

  pub turn_steps : checked ≡ Ok tt → is_idle b.numbers ≡ false → (w : ℕ) × (v : ℕ) × ((turn_on nets b values).answer ≡ Ok (Some (next, w, v)))
  unfolding turn_of turn_as serve
  turn_steps e i = rw (e, i) (_, _, refl)

  -- where `Idles`, `Steps` and `Refuses` say what is answered
  module _ (Idles : Type 0) (Steps : ℕ → ℕ → ℕ → Type 0) (Refuses : ℕ → ℕ → Type 0) where
    turn_kept : (e : TurnEnd) → TurnCase nets b values e → ((m w v : ℕ) → e.answer ≡ Ok (Some (m, w, v)) → Steps m w v)
        → ((m w v : ℕ) → Steps m w v → ⊥) → (turn_after nets b values e ≡ b) × (e.values ≡ values)
    unfolding serve
    turn_kept e (idles i) steps n = (refl, refl)
    turn_kept e (refuses cause f) steps n = (refl, refl)
    turn_kept e (serves s) steps n = absurd (n _ _ _ (steps _ _ _ refl))

    turn_serves : (e : TurnEnd) → TurnCase nets b values e → (m w v : ℕ) → e.answer ≡ Ok (Some (m, w, v)) → Serves nets b values m w v (turn_after nets b values e) e.values
    turn_serves e (idles i) m w v is = let z : ◌≡◌ {A = ℕ} 0 1 = cc in absurd (omega arith)
    turn_serves e (refuses cause f) m w v is = let z : ◌≡◌ {A = ℕ} 0 1 = cc in absurd (omega arith)
    turn_serves e (serves s) m w v is = served_so s m w v (turn_served nets b values e (serves s) m w v is)

    pub turn_means : ((turn_on nets b values).answer ≡ Ok None → Idles)
        → ((m w v : ℕ) → (turn_on nets b values).answer ≡ Ok (Some (m, w, v)) → Steps m w v) → ((m w v : ℕ) → Steps m w v → (turn_on nets b values).answer ≡ Ok (Some (m, w, v)))
        → ((cause : Cause) → (turn_on nets b values).answer ≡ Err cause → Refuses (refusal_of cause).number (refusal_of cause).line)
        → TurnMeans nets b values Idles Steps Refuses (after nets b (turn_call values)) (turn_on nets b values).values
    unfolding after
    turn_means idle steps says told =
        let c = turn_case nets b values in
        let t = turn_tested nets b values Idles (λ m. (w : ℕ) × (v : ℕ) × Steps m w v) (λ cause. Refuses)
        (λ p i. idle (turn_idles p i))
        (λ p i. let s = turn_steps p i in (s.0, s.1, steps _ _ _ s.2))
        (λ cause f. told cause (turn_told cause f)) in
        record {
          no_bench = t.no_bench;
          idle = t.idle;
          kept = turn_kept (turn_on nets b values) c steps;
          serves = λ m w v s. turn_serves (turn_on nets b values) c m w v (says m w v s);
        }

-- of turn's own answer
pub turn_claims : (nets latches values queues bench : List ℕ) (e : TurnEnd) → e ≡ turn_of nets latches values queues bench
    → TurnMeans nets (bench_of latches queues bench) values (e.answer ≡ Ok None) (λ m w v. e.answer ≡ Ok (Some (m, w, v))) (TurnRefuses e.answer) (bench_of e.latches e.queues e.bench) e.values
    × KeepsBench nets (bench_of latches queues bench) (turn_call values) (bench_of e.latches e.queues e.bench)
unfolding after
turn_claims nets latches values queues bench e is =
    let b = bench_of latches queues bench in
    rw is (turn_means nets b values _ _ _ (λ i. i) (λ m w v s. s) (λ m w v s. s) (λ cause t. (cause, t, refl)), keeps_bench nets b (turn_call values) _ refl)
