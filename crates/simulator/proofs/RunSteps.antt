-- A run is its steps, one after another: each cycle of a run that is not refused is a step that is not refused. Assumes nothing.
use Rattle.std.specs.Prelude.{Ok}
use mathlib.Core.Path.{◌≡◌, refl, sym, ap, ◌∙◌}
use mathlib.Core.Bool.{true}
use mathlib.Core.List.{List, [], ◌∷◌}
use Prim.Native.Nat.{ℕ, suc, ◌+◌, ◌≤◌}
use lib.ListN.{length}
use Rattle.netlist.specs.Layout.{maximum, input_count, latch_count}
use Rattle.netlist.specs.Valid.{is_netlist}
use Rattle.netlist.proofs.ValidLaws.{valid}
use Rattle.calls.specs.declared.tally.Tally.{Tally}
use Rattle.calls.specs.Tallies.{has_room}
use Rattle.trace.specs.Traces.{is_cycle, cycles_of}
use Rattle.trace.specs.Claims.{Cycles}
use Rattle.calls.specs.Refusals.{step_check}
use Rattle.simulator.specs.Step.{StepEnd, output_word, word_checked}
use Rattle.simulator.specs.Run.{Running, running, run_cycle, run_cycles, ran_to}
use Rattle.simulator.specs.Claims.{Steps, went, after_step, one_more, steps, RunIsSteps}
use Rattle.calls.proofs.TallyLaws.{room-one, room_next}
use Rattle.trace.proofs.TraceLaws.{cycle-length, length-cycles}
use Rattle.trace.proofs.LineLaws.{lines-are_cycles}
use Rattle.calls.proofs.RefusalLaws.{step_passes, run-passed}
use Rattle.simulator.proofs.CycleLaws.{latches-length, values_length}
use Rattle.simulator.proofs.StepLaws.{step_is}
use Rattle.simulator.proofs.RunLaws.{run_is}

module _ (net : List ℕ) (v : is_netlist net ≡ true) where
  -- a step that is not refused is a cycle of a run
  one_step : (c : List ℕ) (r : Running) → step_check net c (length r.latches) (length r.values) r.tally ≡ Ok tt
      → one_more net c (went r) ≡ went (run_cycle net c r)
  unfolding run_cycle after_step one_more
  one_step c r e = ap (λ (x : StepEnd). after_step x.answer.outcome x r.bytes) (sym (step_is net c r.latches r.values r.tally e))

  -- the buffers keep their lengths, and the tally its room
  module _ (c : List ℕ) (r : Running) (h : is_cycle (input_count net) c ≡ true) (l : latch_count net ≤ length r.latches) (m : maximum net + 1 ≤ length r.values) where
    latches_stay : latch_count net ≤ length (run_cycle net c r).latches
    unfolding run_cycle
    latches_stay = rw (latches-length net c r.latches r.values (valid net v) (cycle-length (input_count net) c h) l) l

    values_stay : maximum net + 1 ≤ length (run_cycle net c r).values
    unfolding run_cycle
    values_stay = rw (values_length net c r.latches r.values (valid net v) (cycle-length (input_count net) c h) l m) m

    room_stays : (n : ℕ) → has_room r.tally (suc n) ≡ true → has_room (run_cycle net c r).tally n ≡ true
    unfolding run_cycle
    room_stays n e = room_next r.tally (output_word net c r.latches) (word_checked net c r.latches) n e

  cycles-steps : (cs : List (List ℕ)) (r : Running) → Cycles (input_count net) cs → latch_count net ≤ length r.latches → maximum net + 1 ≤ length r.values
      → has_room r.tally (length cs) ≡ true → steps net (went r) cs ≡ went (run_cycles net r cs)
  unfolding run_cycles steps Cycles
  cycles-steps [] r cy l m x = refl
  cycles-steps (c ∷ cs) r cy l m x =
      let passes = step_passes net c (length r.latches) (length r.values) r.tally
      (record { netlist = v; bits = cy.0; latches = l; values = m; room = room-one r.tally (length cs) x }) in
      ap (λ (s : Steps). steps net s cs) (one_step c r passes)
      ∙ cycles-steps cs (run_cycle net c r) cy.1 (latches_stay c r cy.0 l m) (values_stay c r cy.0 l m) (room_stays c r cy.0 l m (length cs) x)

-- no step of a run that is not refused is refused, and the run answers and leaves what its steps do
pub run-is-steps : (net trace latches values verdicts : List ℕ) (t : Tally) → RunIsSteps net trace latches values verdicts t
unfolding ran_to
run-is-steps net trace latches values verdicts t e =
    let p = run-passed net trace (length latches) (length values) (length verdicts) t e in
    let cs = cycles_of (input_count net) trace in
    record {
      last = run_cycles net (running latches values [] t) cs;
      stepped = cycles-steps net p.netlist cs (running latches values [] t) (lines-are_cycles (input_count net) trace p.faultless) p.latches p.values
          (rw (length-cycles (input_count net) trace) p.room);
      ended = run_is net trace latches values verdicts t e;
    }
