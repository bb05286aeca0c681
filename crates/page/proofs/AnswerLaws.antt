-- What the answers of build and of judge and the buffers that they left give a page. Assumes nothing.
use Rattle.std.specs.Prelude.{Result, Ok, Err}
use mathlib.Core.Path.{◌≡◌, refl, sym, ap, ◌∙◌}
use mathlib.Core.Bool.{Bool, true, false, cond}
use mathlib.Core.List.{List, [], ◌++◌}
use Prim.Native.Nat.{ℕ, ◌*◌, ◌≤◌}
use lib.Dec.{eqb}
use lib.ListN.{length, take, drop}
use lib.Seq.{take_at}
use Rattle.netlist.specs.Valid.{is_netlist}
use Rattle.assertion.specs.Graph.{Bytes, Graph}
use Rattle.assertion.specs.Paths.{verdicts, count_rejected}
use Rattle.graph.specs.Reading.{graph_of}
use Rattle.builder.specs.declared.Cause.{Cause}
use Rattle.builder.specs.Build.{refusal_of, build_end, build_of}
use Rattle.builder.specs.Claims.{BuildMeans}
use Rattle.calls.specs.declared.refusal.Cause.TheVariants.{WrongLine}
use Rattle.calls.specs.declared.tally.Tally.{Tally}
use Rattle.calls.specs.Refusals as calls
use Rattle.trace.specs.Traces.{fault_of, cycles_of}
use Rattle.simulator.specs.declared.outcome.Verdict.{Verdict}
use Rattle.simulator.specs.Run.{verdict_of}
use Rattle.demand.proofs.Held.{verdicts-length}
use Rattle.judge.specs.declared.Cause as judge_cause
use Rattle.judge.specs.declared.Cause.TheVariants.{Trace}
use Rattle.judge.specs.Judge as judge
use Rattle.judge.specs.Judge.{inputs_of, JudgeEnd, judge_end, trace_judged, judge_of}
use Rattle.judge.proofs.BuildLaws.{build_answered, build_left}
use Rattle.judge.proofs.EndLaws.{room-judged, judge_end_lem}
use Rattle.page_text.specs.Lines.{refused_line}
use Rattle.page.specs.Pages.{graph_page}
use Rattle.page.specs.Private.Files.{file_in, file_text}
use Rattle.page.proofs.LengthLaws.{file-fits}
use Rattle.page.proofs.BuildLaws.{told, page_end_lem, build_refused, made_netlist, made_file}

-- ---- a build into a buffer that has room for every netlist

module _ (text : Bytes) {room : List ℕ} (means : BuildMeans false text room) {r : Result ℕ Cause} {net : List ℕ} (e : build_end r net ≡ build_of false text room)
    (enough : 8194 ≤ length room) where
  pub refused-text : (print : Graph → Bytes) {cause : Cause} → r ≡ Err cause → refused_line (refusal_of cause) ≡ graph_page (graph_of text) print
  refused-text print {cause} h = sym (build_refused room enough text print cause (build_answered text room e h))

  pub netlist-text : {made : ℕ} → r ≡ Ok made → is_netlist net ≡ true
  netlist-text {made} h = rw (build_left text room e) at (made_netlist room enough text means made (build_answered text room e h))

  pub file_text_lem : (packed : Bool) {made : ℕ} → r ≡ Ok made → file_in packed net ≡ file_text packed text
  file_text_lem packed {made} h = rw (build_left text room e) at (made_file room enough text means made (build_answered text room e h) packed)

  pub file-within : (packed : Bool) → length (file_text packed text) ≤ 65536
  file-within = file-fits room enough text means

-- ---- a judgement of which `show` prints the tally, the verdict and the bytes of the cycles

module _ (show : Tally → Verdict → List ℕ → Bytes) where
  -- what is printed of an answer, with the verdict buffer as it was left
  unfoldable pub answer_text : Result (Tally × Verdict) judge_cause.Cause → List ℕ → Bytes
  answer_text (Ok (t, v)) bytes = show t v (take t.cycles bytes)
  answer_text (Err c) bytes = refused_line (judge.refusal_of c)

  -- and of a trace by a graph, a wrong line being told
  abbrev pub trace_text : Bytes → Graph → Bytes
  trace_text trace g =
      let fault = fault_of (inputs_of g) trace in
      let cycles = cycles_of (inputs_of g) trace in
      let bytes = verdicts g [] cycles in
      cond (eqb fault 0) (show (record { cycles = length cycles; rejected = count_rejected g cycles; checked = 0 }) (verdict_of bytes) bytes) (refused_line (calls.refusal_of (WrongLine fault)))

  module _ (text trace : Bytes) (buffer : List ℕ) (short : length trace ≤ 1048576) (room : length trace ≤ length buffer * 2) where
    abbrev of_end : JudgeEnd → Bytes
    of_end e = answer_text e.answer e.verdicts

    trace_end : (g : Graph) → of_end (trace_judged g trace buffer) ≡ trace_text trace g
    unfolding answer_text judge.refusal_of
    trace_end g = ap of_end (room-judged g trace buffer short room) ∙ go (eqb (fault_of (inputs_of g) trace) 0)
      where
        cycles : List Bytes
        cycles = cycles_of (inputs_of g) trace

        bytes : List ℕ
        bytes = verdicts g [] cycles

        t : Tally
        t = record { cycles = length cycles; rejected = count_rejected g cycles; checked = 0 }

        wrong : ℕ
        wrong = fault_of (inputs_of g) trace

        go : (b : Bool)
            → of_end (cond b (judge_end (Ok (t, verdict_of bytes)) (bytes ++ drop (length bytes) buffer)) (judge_end (Err (Trace (WrongLine wrong))) buffer))
            ≡ cond b (show t (verdict_of bytes) bytes) (refused_line (calls.refusal_of (WrongLine wrong)))
        go true = ap (show t (verdict_of bytes)) (take_at bytes (drop (length bytes) buffer) (length cycles) (verdicts-length g [] cycles))
        go false = refl

    pub judged-text : {r : Result (Tally × Verdict) judge_cause.Cause} {left : List ℕ} → judge_end r left ≡ judge_of text trace buffer → answer_text r left ≡ graph_page (graph_of text) (trace_text trace)
    unfolding answer_text judge.refusal_of
    judged-text e = ap of_end e ∙ judge_end_lem text trace buffer of_end (trace_text trace) told trace_end (λ c. refl) ∙ sym (page_end_lem (trace_text trace) (graph_of text))
