-- The judgement of a run is the one that paths give: demand 3 carries it from start and run on the numbers that build
-- left to settings and paths. Assumes nothing.
use Rattle.std.specs.Prelude.{Result, Ok, Err}
use Rattle.simulator.specs.declared.outcome.Verdict.{Verdict}
use mathlib.Core.Path.{◌≡◌, refl, ap, ap₂, sym, subst, ◌∙◌}
use mathlib.Core.Bool.{Bool, true, false, cond, not}
use mathlib.Core.List.{List, [], ◌∷◌, ◌++◌}
use Prim.Native.Nat.{ℕ, ◌+◌, ◌*◌, ◌≤◌}
use native.Mathlib.Nat.{mul-le-mul_left}
use native.Mathlib.Omega.{arith}
use borrow.Author.Tests.{leb-true, le-leb}
use lib.Dec.{eqb, leb}
use lib.ListN.{length, take, drop, replicate, length-append, length-map, length-replicate}
use lib.Seq.{take_at}
use Rattle.netlist.specs.Layout.{maximum, input_count, latch_count}
use Rattle.netlist.specs.Meaning.{words}
use Rattle.netlist.specs.Valid.{is_netlist}
use Rattle.netlist.proofs.ValidLaws.{Valid, valid}
use Rattle.assertion.specs.Graph.{Bytes, Graph, signal_bits}
use Rattle.assertion.specs.Paths as paths
use Rattle.assertion.specs.Paths.{count_rejected}
use Rattle.graph.specs.Reading.{graph_of}
use Rattle.circuit.specs.Numbers.{numbers_of}
use Rattle.circuit.proofs.Places.{inputs_are}
use Rattle.builder.specs.declared.Cause as builder
use Rattle.builder.specs.Build.{build_end, build_of}
use Rattle.builder.specs.Claims.{BuildMeans}
use Rattle.calls.specs.declared.refusal.Cause as calls
use Rattle.calls.specs.declared.refusal.Cause.TheVariants.{TraceTooLong, WrongLine, ShortBuffer, FullTally}
use Rattle.calls.specs.declared.tally.Tally.{Tally}
use Rattle.calls.specs.Tallies.{cleared, has_room}
use Rattle.calls.specs.Refusals.{is_short, has_latches, has_values, start_check, run_check}
use Rattle.calls.proofs.TallyLaws.{fits-room}
use Rattle.trace.specs.Traces.{fault_of, line_count, cycles_of}
use Rattle.trace.proofs.TraceLaws.{lines_fit, length-cycles}
use Rattle.simulator.specs.declared.outcome.Started.{Started}
use Rattle.simulator.specs.declared.outcome.Ran.{Ran}
use Rattle.simulator.specs.Start.{StartEnd, start_end, start_words, start_as, start_of}
use Rattle.simulator.specs.Run.{verdict_byte, verdict_of, RunEnd, run_end, run_as, run_of}
use Rattle.simulator.proofs.StartLaws.{length-starts}
use Rattle.simulator.proofs.RunMeaning.{outputs_of, length-outputs, bytes_of, run-verdicts, run-outcome}
use Rattle.demand.specs.Calls.{run_call, called, run_gives}
use Rattle.demand.specs.Demand.{BytesRight, Counted, kept_by, Demand3}
use Rattle.demand.proofs.Held.{verdicts-length}
use Rattle.judge.specs.declared.Cause.TheVariants as cause
use Rattle.judge.specs.Judge.{inputs_of, JudgeEnd, judge_end, trace_judged, judge_of}
use Rattle.judge.specs.Private.Machine.{outcome_judged, judged_run, machine_end, machine_judged}
use Rattle.judge.proofs.BuildLaws.{graph_end, build_answered, build_left, build_refused, build_made, made_end, made_demand}
use Rattle.judge.proofs.EndLaws.{judge_end_lem}

-- a netlist and a trace; the words lent are enough for every netlist, the bytes are any
module _ (net trace : List ℕ) (netlist : is_netlist net ≡ true) (lent values bytes : List ℕ) (lent-enough : 4094 ≤ length lent) (values_enough : 4096 ≤ length values) where
  held : Valid net
  held = valid net netlist

  abbrev latches : List ℕ
  latches = (start_of net lent cleared).latches

  abbrev tally : Tally
  tally = (start_of net lent cleared).answer.tally

  abbrev ending : RunEnd
  ending = run_of net trace latches values bytes tally

  abbrev fault : ℕ
  fault = fault_of (input_count net) trace

  abbrev lines : ℕ
  lines = line_count (input_count net) trace

  abbrev cycles : List (List ℕ)
  cycles = cycles_of (input_count net) trace

  -- ---- the start is accepted
  starts : start_check net (length lent) ≡ Ok tt
  unfolding start_check has_latches
  starts = rw (netlist, le-leb (latch_count net) (length lent) (omega (arith, held.sum, held.some, held.small)))

  started : (start_of net lent cleared).answer.outcome ≡ Ok tt
  unfolding start_of start_as
  started = ap (λ (c : Result Unit calls.Cause). (start_as c net lent cleared).answer.outcome) starts

  start-tally : tally ≡ cleared
  unfolding start_of start_as
  start-tally = ap (λ (c : Result Unit calls.Cause). (start_as c net lent cleared).answer.tally) starts

  start-latches : latches ≡ start_words net (latch_count net) ++ drop (latch_count net) lent
  unfolding start_of start_as
  start-latches = ap (λ (c : Result Unit calls.Cause). (start_as c net lent cleared).latches) starts

  start_enough : latch_count net ≤ length latches
  start_enough =
      omega (
        arith,
        ap length start-latches,
        length-append (start_words net (latch_count net)) (drop (latch_count net) lent),
        length-starts net (latch_count net),
      )

  -- ---- of the tests before the run those of the trace and of the verdict buffer can fail
  has_room_lem : is_short trace ≡ true → has_room cleared lines ≡ true
  unfolding is_short
  has_room_lem short =
      let two : lines * 2 ≤ lines * (input_count net + 1) = mul-le-mul_left lines (omega (arith, held.some)) in
      let most : lines ≤ 1048576 = omega (arith, two, lines_fit (input_count net) trace, leb-true (length trace) 1048576 short) in
      fits-room cleared lines (omega arith, omega arith, omega arith)

  abbrev judged_as : Bool → Bool → Bool → Result Unit calls.Cause
  judged_as s f l = cond (not s) (Err TraceTooLong) (cond (not f) (Err (WrongLine fault)) (cond (not l) (Err ShortBuffer) (Ok tt)))

  checked : run_check net trace (length latches) (length values) (length bytes) cleared ≡ judged_as (is_short trace) (eqb fault 0) (leb lines (length bytes))
  unfolding run_check has_latches has_values
  checked =
      rw (
        netlist,
        le-leb (latch_count net) (length latches) start_enough,
        le-leb (maximum net + 1) (length values) (omega (arith, held.small)),
      )
      (go (is_short trace) refl)
    where
      go : (s : Bool) → is_short trace ≡ s
          → cond (not s) (Err TraceTooLong)
          (cond (not (eqb fault 0)) (Err (WrongLine fault))
          (cond (not (leb lines (length bytes))) (Err ShortBuffer)
          (cond (not (has_room cleared lines)) (Err FullTally)
          (Ok tt))))
          ≡ judged_as s (eqb fault 0) (leb lines (length bytes))
      go true h = rw (has_room_lem h)
      go false h = refl

  run-checked : run_check net trace (length latches) (length values) (length bytes) tally ≡ judged_as (is_short trace) (eqb fault 0) (leb lines (length bytes))
  run-checked = ap (run_check net trace (length latches) (length values) (length bytes)) start-tally ∙ checked

  -- ---- a run that is refused
  stopped : {c : calls.Cause} → run_check net trace (length latches) (length values) (length bytes) tally ≡ Err c
      → judged_run ending ≡ judge_end (Err (cause.Trace c)) bytes
  unfolding run_of run_as outcome_judged
  stopped e = ap (λ (k : Result Unit calls.Cause). judged_run (run_as k net trace latches values bytes tally)) e

  module _ (g : Graph) (made : ℕ) (demand : Demand3 false g net made) where
    abbrev judged : List ℕ
    judged = paths.verdicts g [] cycles

    -- ---- a run that is not
    module _ (passed : run_check net trace (length latches) (length values) (length bytes) tally ≡ Ok tt) where
      abbrev found : List ℕ
      found = bytes_of net cycles (take (latch_count net) latches)

      outcome : ending.answer.outcome ≡ Ok (verdict_of found)
      outcome = run-outcome net trace latches values bytes tally passed

      given : run_gives ending.answer.outcome (input_count net) trace ≡ cycles
      unfolding run_gives
      given = ap (λ (o : Result Verdict calls.Cause). run_gives o (input_count net) trace) outcome

      -- what demand 3 says of the one run
      counted : Counted false g net [] (kept_by (start_of net lent cleared)) (run_call trace values bytes ∷ [])
      counted = demand.counted lent cleared started (run_call trace values bytes ∷ [])

      cycles-right : ending.answer.tally.cycles ≡ length cycles
      unfolding Counted called
      cycles-right = counted.2.0 ∙ ap length given

      rejected-right : ending.answer.tally.rejected ≡ count_rejected g cycles
      unfolding Counted called
      rejected-right = counted.2.1 ∙ ap (count_rejected g) given

      checked-right : ending.answer.tally.checked ≡ 0
      unfolding Counted called
      checked-right = counted.2.2

      bytes-right : take (length cycles) ending.verdicts ≡ judged
      unfolding Counted BytesRight called
      bytes-right = subst (λ (cs : List (List ℕ)). take (length cs) ending.verdicts ≡ paths.verdicts g [] cs) given counted.0

      -- the bytes of the run are those that paths give
      found_right : found ≡ judged
      found_right =
          let n : length found ≡ length cycles = length-map (outputs_of words net cycles (take (latch_count net) latches)) verdict_byte ∙ length-outputs words net cycles (take (latch_count net) latches) in
          sym (take_at found (drop (length cycles) bytes) (length cycles) n)
          ∙ ap (take (length cycles)) (sym (run-verdicts net trace latches values bytes tally passed))
          ∙ bytes-right

      ended : judged_run ending ≡ judge_end (Ok (record { cycles = length cycles; rejected = count_rejected g cycles; checked = 0 }, verdict_of judged)) (judged ++ drop (length cycles) bytes)
      unfolding outcome_judged
      ended =
          ap (λ (o : Result Verdict calls.Cause). judge_end (outcome_judged o ending.answer.tally) ending.verdicts) outcome
          ∙ ap₂ (λ (c r : ℕ). judge_end (Ok (record { cycles = c; rejected = r; checked = ending.answer.tally.checked }, verdict_of found)) ending.verdicts) cycles-right rejected-right
          ∙ ap (λ (k : ℕ). judge_end (Ok (record { cycles = length cycles; rejected = count_rejected g cycles; checked = k }, verdict_of found)) ending.verdicts) checked-right
          ∙ ap (λ (v : List ℕ). judge_end (Ok (record { cycles = length cycles; rejected = count_rejected g cycles; checked = 0 }, verdict_of found)) v)
          (run-verdicts net trace latches values bytes tally passed)
          ∙ ap (λ (b : List ℕ). judge_end (Ok (record { cycles = length cycles; rejected = count_rejected g cycles; checked = 0 }, verdict_of b)) (b ++ drop (length cycles) bytes))
          found_right

    run-judged : input_count net ≡ inputs_of g → judged_run ending ≡ trace_judged g trace bytes
    unfolding trace_judged
    run-judged inputs =
        rw (← inputs, verdicts-length g [] cycles, length-cycles (input_count net) trace)
        (go (is_short trace) (eqb fault 0) (leb lines (length bytes)) run-checked)
      where
        go : (s f l : Bool) → run_check net trace (length latches) (length values) (length bytes) tally ≡ judged_as s f l
            → judged_run ending
            ≡ cond (not s) (judge_end (Err (cause.Trace TraceTooLong)) bytes)
            (cond (not f) (judge_end (Err (cause.Trace (WrongLine fault))) bytes)
            (cond (not l) (judge_end (Err (cause.Trace ShortBuffer)) bytes)
            (judge_end (Ok (record { cycles = lines; rejected = count_rejected g cycles; checked = 0 }, verdict_of judged)) (judged ++ drop lines bytes))))
        go false f l e = stopped e
        go true false l e = stopped e
        go true true false e = stopped e
        go true true true e = rw (length-cycles (input_count net) trace) at (ended e)

-- ---- a start and a run, as they answered and left
pub machine_end_lem : (net trace bytes : List ℕ) {s : Started} {r : Ran} {latches latches' values verdicts : List ℕ}
    → start_end s latches ≡ start_of net (replicate 4094 0) cleared
    → run_end r latches' values verdicts ≡ run_of net trace latches (replicate 4096 0) bytes s.tally
    → judge_end (outcome_judged r.outcome r.tally) verdicts ≡ machine_judged net trace bytes
unfolding machine_judged machine_end
machine_end_lem net trace bytes starts runs = ap judged_run runs ∙ ap (λ (s : StartEnd). judged_run (after s)) starts
  where
    after : StartEnd → RunEnd
    after s = run_of net trace s.latches (replicate 4096 0) bytes s.answer.tally

-- ---- a build into a buffer that has room for every netlist, as it answered and left
module _ (text trace : Bytes) (bytes : List ℕ) {room : List ℕ} (means : BuildMeans false text room) {r : Result ℕ builder.Cause} {net : List ℕ} (e : build_end r net ≡ build_of false text room)
    (enough : 8194 ≤ length room) where
  abbrev refuse : builder.Cause → JudgeEnd
  refuse c = judge_end (Err (cause.Graph c)) bytes

  by_graph : judge_of text trace bytes ≡ graph_end (λ g. trace_judged g trace bytes) refuse (graph_of text)
  by_graph = judge_end_lem text trace bytes (λ e. e) (λ g. trace_judged g trace bytes) refuse (λ g. refl) (λ c. refl)

  pub refused-judged : {c : builder.Cause} → r ≡ Err c → refuse c ≡ judge_of text trace bytes
  refused-judged {c} h = sym (by_graph ∙ build_refused room enough (λ g. trace_judged g trace bytes) refuse c text (build_answered text room e h))

  pub made_judged : {made : ℕ} → r ≡ Ok made → machine_judged net trace bytes ≡ judge_of text trace bytes
  unfolding machine_judged machine_end inputs_of
  made_judged {made} h =
      let m = build_made room enough text made (build_answered text room e h) in
      let demand : Demand3 false m.g net made = rw (build_left text room e) at (made_demand room enough text made (build_answered text room e h) means) in
      let inputs : input_count net ≡ 1 + signal_bits m.g = ap input_count (sym (build_left text room e) ∙ m.net) ∙ inputs_are m.g false (drop (length (numbers_of m.g)) room) in
      run-judged net trace demand.netlist (replicate 4094 0) (replicate 4096 0) bytes (omega (arith, length-replicate {A = ℕ} 4094 0)) (omega (arith, length-replicate {A = ℕ} 4096 0)) m.g made demand inputs
      ∙ sym (by_graph ∙ made_end room enough text made (build_answered text room e h) (λ g. trace_judged g trace bytes) refuse)
