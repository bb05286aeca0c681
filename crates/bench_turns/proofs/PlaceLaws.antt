-- One place by itself: what a call does to it, and what that keeps. Assumes nothing.
use Rattle.std.specs.Prelude.{Ok}
use mathlib.Core.Path.{◌≡◌, refl, sym, ap, subst, ◌∙◌}
use mathlib.Core.Bool.{true}
use mathlib.Core.List.{List, [], ◌∷◌, ◌++◌, append-nil}
use Prim.Native.Nat.{ℕ, suc, ◌+◌, ◌-◌, ◌*◌, ◌<◌, ◌≤◌}
use native.Mathlib.Omega.{arith}
use lib.ListN.{length, take}
use Rattle.netlist.specs.Layout.{input_count, latch_count}
use Rattle.netlist.specs.Valid.{is_netlist}
use Rattle.netlist.proofs.ValidLaws.{valid}
use Rattle.assertion.specs.Graph.{Cycle}
use Rattle.calls.specs.declared.tally.Tally.{Tally}
use Rattle.calls.specs.Tallies.{counted, has_room}
use Rattle.trace.specs.Traces.{is_cycle}
use Rattle.calls.specs.Refusals.{step_check}
use Rattle.simulator.specs.Step.{output_word, word_checked, latches_after, values_after, StepEnd, step_end, step_of}
use Rattle.calls.proofs.TallyLaws.{room_next}
use Rattle.trace.proofs.TraceLaws.{cycle-length}
use Rattle.simulator.proofs.CycleLaws.{latches-length}
use Rattle.simulator.proofs.StepLaws.{step_is}
use Rattle.demand.specs.Calls as demand
use Rattle.demand.specs.Calls.{Kept, called, step_gives}
use Rattle.bench_turns.specs.Parts.{cycles_in, are_cycles, placed, shifted}
use Rattle.bench_turns.proofs.OwnSteps.{cycles_of, kept_after, given}
use Rattle.bench_turns.proofs.QueueLaws.{placed-cycles, placed-length, shifted-cycles, shifted-length, are-more, are-first}

pub record Place : Type 0 where
  pub latches : List ℕ
  pub queue : List ℕ
  pub waiting : ℕ
  pub tally : Tally

abbrev pub kept_in : Place → Kept
kept_in p = record { latches = p.latches; tally = p.tally }

abbrev pub waiting_in : List ℕ → Place → List Cycle
waiting_in net p = cycles_in (input_count net) p.waiting p.queue

abbrev pub first : List ℕ → Place → Cycle
first net p = take (input_count net) p.queue

pub record Good (net : List ℕ) (p : Place) : Type 0 where
  pub netlist : is_netlist net ≡ true
  pub few : p.waiting ≤ 16
  pub slots : 64 * p.waiting ≤ length p.queue
  pub cycles : are_cycles (input_count net) (waiting_in net p) ≡ true
  pub latches : latch_count net ≤ length p.latches
  pub roomy : has_room p.tally p.waiting ≡ true

-- with a new cycle; after a step
abbrev pub grown : Cycle → Place → Place
grown c p = record { latches = p.latches; queue = placed p.waiting c p.queue; waiting = p.waiting + 1; tally = p.tally }

abbrev pub step_in : List ℕ → List ℕ → Place → StepEnd
step_in net values p = step_of net (first net p) p.latches values p.tally

abbrev pub moved_to : StepEnd → Place → Place
moved_to e p = record { latches = e.latches; queue = shifted (p.waiting - 1) p.queue; waiting = p.waiting - 1; tally = e.answer.tally }

-- what a call does to a place: the place before and after, its steps and its new cycles
pub data Change (net : List ℕ) : Place → Place → List demand.Call → List Cycle → Type 0 where
  still : {p : Place} → Change net p p [] []
  grows : {p : Place} (c : Cycle) → is_cycle (input_count net) c ≡ true → p.waiting + 1 ≤ 16 → 64 * (p.waiting + 1) ≤ length p.queue → has_room p.tally (p.waiting + 1) ≡ true
      → Change net p (grown c p) [] (c ∷ [])
  moves : {p : Place} (values : List ℕ) → 0 < p.waiting → step_check net (first net p) (length p.latches) (length values) p.tally ≡ Ok tt
      → Change net p (moved_to (step_in net values p) p) (demand.step_call (first net p) values ∷ []) []

-- ---- order
module _ (net : List ℕ) where
  front : (p : Place) → Good net p → 0 < p.waiting → waiting_in net p ≡ first net p ∷ cycles_in (input_count net) (p.waiting - 1) (shifted (p.waiting - 1) p.queue)
  front p g h =
      let s : suc (p.waiting - 1) ≡ p.waiting = omega arith in
      let l = g.slots in
      ap (λ (n : ℕ). cycles_in (input_count net) n p.queue) (sym s)
      ∙ shifted-cycles (input_count net) (p.waiting - 1) p.queue (valid net g.netlist).few (omega arith)

  pub change_order : {p q : Place} {ss : List demand.Call} {new : List Cycle} → Good net p → Change net p q ss new → cycles_of ss ++ waiting_in net q ≡ waiting_in net p ++ new
  unfolding cycles_of
  change_order g still = sym (append-nil _)
  change_order g (grows {p = p} c is few slot r) = placed-cycles (input_count net) p.waiting c p.queue (valid net g.netlist).few (cycle-length (input_count net) c is) slot
  change_order g (moves {p = p} values some passed) = sym (front p g some) ∙ sym (append-nil _)

  -- ---- latch words and tally
  pub change_kept : {p q : Place} {ss : List demand.Call} {new : List Cycle} → Change net p q ss new → kept_in q ≡ kept_after net (kept_in p) ss
  unfolding kept_after called
  change_kept still = refl
  change_kept (grows c is few slot r) = refl
  change_kept (moves values some passed) = refl

  pub change_given : {p q : Place} {ss : List demand.Call} {new : List Cycle} → Change net p q ss new → given net (kept_in p) ss ≡ cycles_of ss
  unfolding given called cycles_of step_gives
  change_given still = refl
  change_given (grows c is few slot r) = refl
  change_given (moves {p = p} values some passed) =
      let e = step_is net (first net p) p.latches values p.tally passed in
      ap (λ (z : StepEnd). step_gives z.answer.outcome (first net p) ++ []) (sym e)

  -- ---- what holds of a good place
  moved_good : (p : Place) (values : List ℕ) → 0 < p.waiting → Good net p → (e : StepEnd)
      → step_end (record { outcome = Ok ((output_word net (first net p) p.latches), (word_checked net (first net p) p.latches)); tally = counted p.tally (output_word net (first net p) p.latches) (word_checked net (first net p) p.latches) }) (latches_after net (first net p) p.latches) (values_after net (first net p) p.latches values) ≡ e
      → Good net (moved_to e p)
  moved_good p values some g e is =
      let w = output_word net (first net p) p.latches in
      let n = p.waiting - 1 in
      let s : suc n ≡ p.waiting = omega arith in
      let c = word_checked net (first net p) p.latches in
      let r = room_next p.tally w c n (subst (λ (z : ℕ). has_room p.tally z ≡ true) (sym s) g.roomy) in
      let sl = g.slots in
      let fw = g.few in
      let long : 64 * suc n ≤ length p.queue = omega arith in
      let cs = are-first (input_count net) (first net p) (cycles_in (input_count net) n (shifted n p.queue)) (subst (λ (z : List Cycle). are_cycles (input_count net) z ≡ true) (front p g some) g.cycles) in
      subst (λ (z : StepEnd). Good net (moved_to z p)) is
      (record {
        netlist = g.netlist;
        few = omega arith;
        slots = rw (shifted-length (input_count net) n p.queue (valid net g.netlist).few long) (omega arith);
        cycles = cs.1;
        latches = rw (latches-length net (first net p) p.latches values (valid net g.netlist) (cycle-length (input_count net) (first net p) cs.0) g.latches) g.latches;
        roomy = r;
      })

  pub change_good : {p q : Place} {ss : List demand.Call} {new : List Cycle} → Good net p → Change net p q ss new → Good net q
  change_good g still = g
  change_good g (grows {p = p} c is few slot r) =
      let v = (valid net g.netlist).few in
      let l = cycle-length (input_count net) c is in
      record {
        netlist = g.netlist;
        few = few;
        slots = rw (placed-length (input_count net) p.waiting c p.queue v l slot) slot;
        cycles = rw (placed-cycles (input_count net) p.waiting c p.queue v l slot) (are-more (input_count net) (waiting_in net p) c g.cycles is);
        latches = g.latches;
        roomy = r;
      }
  change_good g (moves {p = p} values some passed) = moved_good p values some g _ (step_is net (first net p) p.latches values p.tally passed)

  -- a place with a cycle waiting that is not stepped has one still
  pub change_waits : {p q : Place} {ss : List demand.Call} {new : List Cycle} → Change net p q ss new → 0 < p.waiting → ss ≡ [] → 0 < q.waiting
  change_waits still h e = h
  change_waits (grows c is few slot r) h e = omega arith
  change_waits (moves values some passed) h e = let z : ◌≡◌ {A = ℕ} 0 1 = cc in absurd (omega arith)
