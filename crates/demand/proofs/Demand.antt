-- Demand 3: on the monitor of a graph, whatever is called after start, tally, verdict bytes and verdicts are what the paths say. Assumes nothing.
use Rattle.std.specs.Prelude.{Result, Ok, Err}
use Rattle.calls.specs.declared.refusal.Cause.{Cause}
use Prim.Native.Nat.{ℕ, zero, suc, ◌+◌, ◌-◌, ◌*◌, ◌<◌, ◌≤◌}
use mathlib.Core.Path.{◌≡◌, refl, ap, ap₂, subst, sym, ◌∙◌}
use mathlib.Core.Bool.{Bool, true, false, cond}
use mathlib.Core.List.{List, [], ◌∷◌, ◌++◌, map, append-nil}
use native.Mathlib.Omega.{arith}
use lib.Dec.{eqb, ltb}
use lib.ListN.{length, get_or, drop, length-append, length-map, get_or-append, get_or-map}
use lib.Seq.{ext_get_or, get_or-append-add, take_at}
use borrow.Author.Tests.{ltb-true, ltb-false}
use Rattle.netlist.specs.Layout.{input_count, latch_count, reset_at}
use Rattle.netlist.specs.Lanes.{lane}
use Rattle.netlist.specs.Valid.{is_free, free_count}
use Rattle.netlist.proofs.LaneLaws.{lane-zero, lane_word}
use Rattle.assertion.specs.Graph.{Edge, Graph, signal_bits, constant_bits, Cycle}
use Rattle.assertion.specs.Paths.{verdicts, count_rejected, count_checked}
use Rattle.assertion.proofs.PathLaws.{paths_mean}
use Rattle.circuit.specs.Checked.{gates_with}
use Rattle.circuit.specs.Count.{gate_formula_with}
use Rattle.circuit.specs.Numbers.{numbers_with}
use Rattle.circuit.proofs.Fits.{Fits}
use Rattle.circuit.proofs.Tokens.{fresh}
use Rattle.circuit.proofs.Lanes.{lane_setting, lane_tokens, setting-length, setting-at, fresh-length}
use Rattle.circuit.proofs.CheckedCount.{count_with, bound_with}
use Rattle.circuit.proofs.Places.{free-before, free-constant, free-edge, gate_count_lem, latch_count_lem, numbers_mean, reset-edge}
use Rattle.circuit.proofs.Machine.{flat_tokens, latches_of, flat_length}
use Rattle.circuit.proofs.Netlist.{numbers-netlist}
use Rattle.calls.specs.declared.tally.Tally.{Tally}
use Rattle.calls.specs.Tallies.{cleared}
use Rattle.trace.specs.Traces.{cycles_of}
use Rattle.trace.specs.Claims.{Cycles}
use Rattle.calls.specs.Refusals.{start_check, step_check, run_check}
use Rattle.simulator.specs.declared.outcome.Verdict.{Verdict}
use Rattle.simulator.specs.declared.outcome.Verdict.TheVariants.{Accepted}
use Rattle.simulator.specs.Start.{start_bit, start_words, start_as, start_of}
use Rattle.simulator.specs.Step.{step_as, step_of}
use Rattle.simulator.specs.Run.{verdict_of, running, run_cycles, ran_to, run_as, run_of}
use Rattle.trace.proofs.TraceLaws.{cycle-length}
use Rattle.trace.proofs.LineLaws.{lines-are_cycles}
use Rattle.calls.proofs.RefusalLaws.{step_passed, run-passed}
use Rattle.simulator.proofs.StartLaws.{length-starts, start-at}
use Rattle.demand.specs.Calls.{Call, step_call, run_call, Kept, Answer, stepped, ran, Called, called, step_gives, run_gives}
use Rattle.demand.specs.Demand.{BytesRight, VerdictOfPaths, VerdictRight, Counted, kept_by, Demand3}
use Rattle.demand.proofs.Held.{Whole, Right, verdicts-length, one_more_lem, many}
use Rattle.demand.proofs.Verdicts.{verdict_of-paths}

-- no token anywhere
fresh_at : (es : List Edge) (j : ℕ) → get_or (flat_tokens (fresh es)) j false ≡ false
fresh_at [] j = refl
fresh_at (e ∷ es) zero = refl
fresh_at (e ∷ es) (suc zero) = refl
fresh_at (e ∷ es) (suc (suc j)) = fresh_at es j

whole : (n : ℕ) (cs : List Cycle) → Cycles n cs → Whole n cs
unfolding Cycles
whole n [] h = tt
whole n (c ∷ cs) h = (cycle-length n c h.0, whole n cs h.1)

-- no cycle is counted before the first
none : (checked : Bool) → 0 ≡ cond {A = ℕ} checked 0 0
none true = refl
none false = refl

-- the verdict in an answer
unfoldable verdict_in : Answer → Verdict
verdict_in (ran (Ok v)) = v
verdict_in (ran (Err cause)) = Accepted
verdict_in (stepped outcome) = Accepted

module _ (checked : Bool) (g : Graph) (fits : Fits g) (surplus : List ℕ) where
  abbrev K : ℕ
  K = constant_bits g

  abbrev E : ℕ
  E = length g.edges

  abbrev net : List ℕ
  net = numbers_with checked g ++ surplus

  -- ---- start: each lane has its setting, and no token
  abbrev begun : ℕ → List Bool
  begun n = latches_of (lane_setting g n) (fresh g.edges)

  begun_length : (n : ℕ) → length (begun n) ≡ K + 2 * E
  unfolding latches_of
  begun_length n =
      omega (
        arith,
        length-append (lane_setting g n) (flat_tokens (fresh g.edges)),
        setting-length g n,
        flat_length (fresh g.edges),
        fresh-length g.edges,
      )

  start_bit_lem : (n k : ℕ) → k < K + 2 * E → start_bit net k n ≡ get_or (begun n) k false
  unfolding start_bit latches_of
  start_bit_lem n k h = by (ltb k K) refl
    where
      by : (b : Bool) → ltb k K ≡ b → start_bit net k n ≡ get_or (begun n) k false
      by true e =
          let l : k < K = ltb-true k K e in
          ap (λ (b : Bool). cond b (lane (free_count net k) n) (eqb (get_or net (reset_at k) 0) 1)) (free-constant g checked surplus k l)
          ∙ ap (λ (j : ℕ). lane j n) (free-before g checked surplus k (omega arith))
          ∙ sym (setting-at g n k l)
          ∙ sym (get_or-append (lane_setting g n) (flat_tokens (fresh g.edges)) false k (omega (arith, setting-length g n)))
      by false e =
          let l : K ≤ k = ltb-false k K e in
          let i : K + (k - K) ≡ k = omega arith in
          let j : length (lane_setting g n) + (k - K) ≡ k = omega (arith, setting-length g n) in
          let f : is_free net k ≡ false = ap (is_free net) (sym i) ∙ free-edge g checked surplus (k - K) (omega arith) in
          let z : get_or net (reset_at k) 0 ≡ 0 = ap (λ (m : ℕ). get_or net (reset_at m) 0) (sym i) ∙ reset-edge g checked surplus (k - K) (omega arith) in
          ap₂ (λ (b : Bool) (m : ℕ). cond b (lane (free_count net k) n) (eqb m 1)) f z
          ∙ sym (fresh_at g.edges (k - K))
          ∙ sym (get_or-append-add (lane_setting g n) (flat_tokens (fresh g.edges)) (k - K) false)
          ∙ ap (λ (m : ℕ). get_or (begun n) m false) j

  start-lane : (n : ℕ) → n < 64 → map (lane n) (start_words net (latch_count net)) ≡ begun n
  start-lane n h =
      let S = start_words net (latch_count net) in
      let m : length (map (lane n) S) ≡ latch_count net = length-map S (lane n) ∙ length-starts net (latch_count net) in
      let c = latch_count_lem g checked surplus in
      ext_get_or false (map (lane n) S) (begun n) (m ∙ c ∙ sym (begun_length n))
      (λ k l.
      let b : k < latch_count net = omega arith in
      ap (get_or (map (lane n) S) k) (sym (lane-zero n))
      ∙ get_or-map (lane n) S k 0
      ∙ ap (lane n) (start-at net (latch_count net) k b)
      ∙ lane_word n (start_bit net k) h
      ∙ start_bit_lem n k (omega arith))

  started : (latches : List ℕ) → Right checked g fits surplus [] (start_words net (latch_count net) ++ drop (latch_count net) latches) cleared
  unfolding lane_tokens count_rejected count_checked
  started latches =
      record {
        lanes-are = λ n h.
            ap (map (lane n)) (take_at (start_words net (latch_count net)) (drop (latch_count net) latches) (latch_count net) (length-starts net (latch_count net)))
            ∙ start-lane n h;
        cycles-are = refl;
        rejected-are = refl;
        checked-are = none checked;
      }

  -- ---- a call
  record After (seen : List Cycle) (x : Call) (d : Called) : Type 0 where
    kept : Right checked g fits surplus (seen ++ d.cycles) d.kept.latches d.kept.tally
    bytes : BytesRight g seen x d
    verdict : VerdictRight g seen x d

  module _ (seen : List Cycle) (k : Kept) (r : Right checked g fits surplus seen k.latches k.tally) where
    step_after : (cycle values : List ℕ) → After seen (step_call cycle values) (called net k (step_call cycle values))
    unfolding called step_of step_as step_gives BytesRight VerdictRight
    step_after cycle values = by (step_check net cycle (length k.latches) (length values) k.tally) refl
      where
        by : (c : Result Unit Cause) → step_check net cycle (length k.latches) (length values) k.tally ≡ c
            → After seen (step_call cycle values) (record {
              kept = record { latches = (step_as c net cycle k.latches values k.tally).latches; tally = (step_as c net cycle k.latches values k.tally).answer.tally };
              answer = stepped (step_as c net cycle k.latches values k.tally).answer.outcome;
              cycles = step_gives (step_as c net cycle k.latches values k.tally).answer.outcome cycle;
              verdicts = [];
            })
        by (Ok tt) e =
            let p = step_passed net cycle (length k.latches) (length values) k.tally _ refl e in
            record { kept = one_more_lem checked g fits surplus seen cycle k.latches k.tally (cycle-length (input_count net) cycle p.bits) r; bytes = tt; verdict = tt }
        by (Err cause) e = record { kept = rw append-nil r; bytes = tt; verdict = tt }

    run-after : (trace values bytes : List ℕ) → After seen (run_call trace values bytes) (called net k (run_call trace values bytes))
    unfolding called run_of run_as run_gives ran_to BytesRight VerdictRight verdict_in
    run-after trace values bytes = by (run_check net trace (length k.latches) (length values) (length bytes) k.tally) refl
      where
        by : (c : Result Unit Cause) → run_check net trace (length k.latches) (length values) (length bytes) k.tally ≡ c
            → After seen (run_call trace values bytes) (record {
              kept = record { latches = (run_as c net trace k.latches values bytes k.tally).latches; tally = (run_as c net trace k.latches values bytes k.tally).answer.tally };
              answer = ran (run_as c net trace k.latches values bytes k.tally).answer.outcome;
              cycles = run_gives (run_as c net trace k.latches values bytes k.tally).answer.outcome (input_count net) trace;
              verdicts = (run_as c net trace k.latches values bytes k.tally).verdicts;
            })
        by (Ok tt) e =
            let p = run-passed net trace (length k.latches) (length values) (length bytes) k.tally e in
            let cs = cycles_of (input_count net) trace in
            let R = run_cycles net (running k.latches values [] k.tally) cs in
            let m = many checked g fits surplus cs seen (running k.latches values [] k.tally) (whole (input_count net) cs (lines-are_cycles (input_count net) trace p.faultless)) r in
            record {
              kept = m.0;
              bytes = take_at R.bytes (drop (length R.bytes) bytes) (length cs) (ap length m.1 ∙ verdicts-length g seen cs) ∙ m.1;
              verdict = λ v o. subst (VerdictOfPaths g seen cs) (sym (ap verdict_of m.1) ∙ ap verdict_in o) (verdict_of-paths g seen cs);
            }
        by (Err cause) e = record { kept = rw append-nil r; bytes = refl; verdict = λ v o. let z : ◌≡◌ {A = ℕ} 0 1 = cc in absurd (omega arith) }

  call_after : (x : Call) (seen : List Cycle) (k : Kept) → Right checked g fits surplus seen k.latches k.tally → After seen x (called net k x)
  call_after (step_call cycle values) seen k r = step_after seen k r cycle values
  call_after (run_call trace values bytes) seen k r = run-after seen k r trace values bytes

  calls_right : (xs : List Call) (seen : List Cycle) (k : Kept) → Right checked g fits surplus seen k.latches k.tally → Counted checked g net seen k xs
  unfolding Counted
  calls_right [] seen k r = (r.cycles-are, r.rejected-are, r.checked-are)
  calls_right (x ∷ xs) seen k r =
      let a = call_after x seen k r in
      (a.bytes, a.verdict, calls_right xs (seen ++ (called net k x).cycles) (called net k x).kept a.kept)

  counts : (latches : List ℕ) (t : Tally) → (start_of net latches t).answer.outcome ≡ Ok tt → (xs : List Call) → Counted checked g net [] (kept_by (start_of net latches t)) xs
  unfolding start_of start_as
  counts latches t = by (start_check net (length latches))
    where
      by : (c : Result Unit Cause) → (start_as c net latches t).answer.outcome ≡ Ok tt → (xs : List Call) → Counted checked g net [] (kept_by (start_as c net latches t)) xs
      by (Ok tt) e xs = calls_right xs [] (record { latches = start_words net (latch_count net) ++ drop (latch_count net) latches; tally = cleared }) (started latches)
      by (Err cause) e xs = let z : ◌≡◌ {A = ℕ} 0 1 = cc in absurd (omega arith)

-- the monitor's numbers, with any surplus, do what demand 3 asks
pub demand3 : (checked : Bool) (g : Graph) → Fits g → length (gates_with checked g) + (1 + signal_bits g) + (constant_bits g + 2 * length g.edges) ≤ 4095
    → (surplus : List ℕ) → Demand3 checked g (numbers_with checked g ++ surplus) (length (gates_with checked g))
unfolding gate_formula_with
demand3 checked g fits small surplus =
    record {
      netlist = numbers-netlist checked g fits small surplus;
      gates = gate_count_lem g checked surplus;
      numbers = numbers_mean g checked surplus;
      formula = count_with checked g fits;
      bound = omega (arith, count_with checked g fits, bound_with checked g);
      counted = counts checked g fits surplus;
      paths = paths_mean;
    }
