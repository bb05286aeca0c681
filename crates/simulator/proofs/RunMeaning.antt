-- The verdict bytes and the verdict of a run, in terms of the cycles' outputs alone. Assumes nothing.
use Rattle.std.specs.Prelude.{Ok}
use mathlib.Core.Path.{◌≡◌, refl, sym, ap, ap₂, ◌∙◌}
use mathlib.Core.List.{List, [], ◌∷◌, ◌++◌, append_assoc, append-nil, map}
use Prim.Native.Nat.{ℕ, suc, ◌+◌}
use native.Mathlib.Omega.{arith}
use lib.ListN.{length, take, drop, length-append, length-map}
use lib.Seq.{take_at}
use Rattle.netlist.specs.Layout.{input_count, latch_count}
use Rattle.netlist.specs.Meaning.{Ops, words, bit_of, values_of, next_of, output_of}
use Rattle.netlist.proofs.MeaningLaws.{length_nexts}
use Rattle.calls.specs.declared.tally.Tally.{Tally}
use Rattle.calls.specs.Refusals.{run_check}
use Rattle.trace.specs.Traces.{cycles_of}
use Rattle.simulator.specs.Step.{cycle_words, output_word, latches_after}
use Rattle.simulator.specs.Run.{verdict_byte, verdict_of, Running, running, run_cycle, run_cycles, RunEnd, ran_to, run_of}
use Rattle.simulator.proofs.RunLaws.{run_is}

-- ---- cycles over any kind of value
module _ {A : Type 0} (o : Ops A) (net : List ℕ) where
  -- the values of all variables in a cycle
  unfoldable pub cycle_of : List ℕ → List A → List A
  cycle_of cycle latches = values_of o net (map (bit_of o) cycle) latches

  -- the output of each cycle
  unfoldable pub outputs_of : List (List ℕ) → List A → List A
  outputs_of [] latches = []
  outputs_of (c ∷ cs) latches = output_of o net 0 (cycle_of c latches) ∷ outputs_of cs (next_of o net (cycle_of c latches))

  -- one output for each cycle
  pub length-outputs : (cs : List (List ℕ)) (latches : List A) → length (outputs_of cs latches) ≡ length cs
  unfolding outputs_of
  length-outputs [] latches = refl
  length-outputs (c ∷ cs) latches = ap suc (length-outputs cs (next_of o net (cycle_of c latches)))

-- ---- what a run holds after its cycles
module _ (net : List ℕ) where
  -- the latches of a run, without the surplus of the buffer
  abbrev pub held : Running → List ℕ
  held r = take (latch_count net) r.latches

  -- the bytes that the cycles add
  abbrev pub bytes_of : List (List ℕ) → List ℕ → List ℕ
  bytes_of cs latches = map verdict_byte (outputs_of words net cs latches)

  module _ (c : List ℕ) (r : Running) where
    next-held : held (run_cycle net c r) ≡ next_of words net (cycle_of words net c (held r))
    unfolding run_cycle latches_after cycle_words cycle_of next_of
    next-held = take_at _ (drop (latch_count net) r.latches) (latch_count net) (length_nexts words net (latch_count net) _)

    next-bytes : (run_cycle net c r).bytes ≡ r.bytes ++ (verdict_byte (output_of words net 0 (cycle_of words net c (held r))) ∷ [])
    unfolding run_cycle output_word cycle_words cycle_of
    next-bytes = refl

  -- one byte for each cycle, that of its output
  pub run-bytes : (cs : List (List ℕ)) (r : Running) → (run_cycles net r cs).bytes ≡ r.bytes ++ bytes_of cs (held r)
  unfolding run_cycles outputs_of
  run-bytes [] r = sym (append-nil r.bytes)
  run-bytes (c ∷ cs) r =
      run-bytes cs (run_cycle net c r)
      ∙ ap₂ (λ (b x : List ℕ). b ++ bytes_of cs x) (next-bytes c r) (next-held c r)
      ∙ append_assoc r.bytes (verdict_byte (output_of words net 0 (cycle_of words net c (held r))) ∷ []) _

  pub run-bytes-length : (cs : List (List ℕ)) (r : Running) → length (run_cycles net r cs).bytes ≡ length r.bytes + length cs
  run-bytes-length cs r =
      ap length (run-bytes cs r) ∙ length-append r.bytes (bytes_of cs (held r))
      ∙ ap (λ (n : ℕ). length r.bytes + n) (length-map (outputs_of words net cs (held r)) verdict_byte ∙ length-outputs words net cs (held r))

-- ---- what a run that is not refused answers and leaves
module _ (net trace latches values verdicts : List ℕ) (t : Tally) (e : run_check net trace (length latches) (length values) (length verdicts) t ≡ Ok tt) where
  abbrev cycles : List (List ℕ)
  cycles = cycles_of (input_count net) trace

  abbrev bytes : List ℕ
  bytes = bytes_of net cycles (take (latch_count net) latches)

  ends : run_of net trace latches values verdicts t ≡ ran_to (run_cycles net (running latches values [] t) cycles) verdicts
  ends = run_is net trace latches values verdicts t e

  -- the byte of each cycle's output, and the surplus as it was
  pub run-verdicts : (run_of net trace latches values verdicts t).verdicts ≡ bytes ++ drop (length cycles) verdicts
  unfolding ran_to
  run-verdicts =
      let r = running latches values [] t in
      let n : length (run_cycles net r cycles).bytes ≡ length cycles = omega (arith, run-bytes-length net cycles r) in
      ap (λ (x : RunEnd). x.verdicts) ends
      ∙ ap₂ (λ (b : List ℕ) (m : ℕ). b ++ drop m verdicts) (run-bytes net cycles r) n

  -- the verdict of those bytes
  pub run-outcome : (run_of net trace latches values verdicts t).answer.outcome ≡ Ok (verdict_of bytes)
  unfolding ran_to
  run-outcome = ap (λ (x : RunEnd). x.answer.outcome) ends ∙ ap (λ (b : List ℕ). Ok (verdict_of b)) (run-bytes net cycles (running latches values [] t))
