-- The verdict bytes that a judgement leaves of its cycles can be printed. Assumes nothing.
use Rattle.std.specs.Prelude.{Result, Ok, Err}
use mathlib.Core.Path.{◌≡◌, refl, ap, ◌∙◌}
use mathlib.Core.Bool.{Bool, true, false, cond}
use mathlib.Core.List.{List, [], ◌∷◌, ◌++◌}
use Prim.Native.Nat.{ℕ, ◌*◌, ◌≤◌}
use lib.Dec.{eqb, leb}
use lib.ListN.{length, take, drop}
use lib.Seq.{take_at}
use Rattle.assertion.specs.Graph.{Bytes, Graph, Cycle}
use Rattle.assertion.specs.Paths.{is_rejected, verdicts, count_rejected}
use Rattle.graph.specs.Reading.{Outcome, refused, accepted, graph_of}
use Rattle.builder.specs.Build.{variables_of}
use Rattle.trace.specs.Verdicts.{all_bits}
use Rattle.trace.specs.Traces.{fault_of, cycles_of}
use Rattle.calls.specs.declared.refusal.Cause.TheVariants.{WrongLine}
use Rattle.calls.specs.declared.tally.Tally.{Tally}
use Rattle.simulator.specs.declared.outcome.Verdict.{Verdict}
use Rattle.simulator.specs.Run.{verdict_of}
use Rattle.demand.proofs.Held.{verdicts-length}
use Rattle.judge.specs.declared.Cause.{Cause}
use Rattle.judge.specs.declared.Cause.TheVariants.{Trace}
use Rattle.judge.specs.Judge.{inputs_of, JudgeEnd, judge_end, trace_judged, judge_of}
use Rattle.judge.proofs.BuildLaws.{graph_end}
use Rattle.judge.proofs.EndLaws.{room-judged, judge_end_lem}
use Rattle.session_text.specs.Claims.{Printable}
use Rattle.session_page.specs.LayOut.{is_graph_name}
use Rattle.session_page.proofs.PrintableLaws.{printable}

pub verdict-bits : (g : Graph) (seen cs : List Cycle) → all_bits (verdicts g seen cs) ≡ true
unfolding all_bits
verdict-bits g seen [] = refl
verdict-bits g seen (c ∷ cs) = go (is_rejected g (seen ++ (c ∷ []))) (verdict-bits g (seen ++ (c ∷ [])) cs)
  where
    go : (b : Bool) → all_bits (verdicts g (seen ++ (c ∷ [])) cs) ≡ true → all_bits (cond b 1 0 ∷ verdicts g (seen ++ (c ∷ [])) cs) ≡ true
    go true h = h
    go false h = h

-- the bytes of the cycles are bits, in an answer with the buffer that it left
unfoldable bits_in : Result (Tally × Verdict) Cause → List ℕ → Bool
bits_in (Ok (t, v)) bytes = all_bits (take t.cycles bytes)
bits_in (Err c) bytes = true

module _ (text trace : Bytes) (buffer : List ℕ) (short : length trace ≤ 1048576) (room : length trace ≤ length buffer * 2) where
  abbrev bits : JudgeEnd → Bool
  bits e = bits_in e.answer e.verdicts

  trace-bits : (g : Graph) → bits (trace_judged g trace buffer) ≡ true
  unfolding bits_in
  trace-bits g = ap bits (room-judged g trace buffer short room) ∙ go (eqb (fault_of (inputs_of g) trace) 0)
    where
      cycles : List Bytes
      cycles = cycles_of (inputs_of g) trace

      judged : List ℕ
      judged = verdicts g [] cycles

      t : Tally
      t = record { cycles = length cycles; rejected = count_rejected g cycles; checked = 0 }

      wrong : JudgeEnd
      wrong = judge_end (Err (Trace (WrongLine (fault_of (inputs_of g) trace)))) buffer

      go : (b : Bool) → bits (cond b (judge_end (Ok (t, verdict_of judged)) (judged ++ drop (length judged) buffer)) wrong) ≡ true
      go true = ap all_bits (take_at judged (drop (length judged) buffer) (length cycles) (verdicts-length g [] cycles)) ∙ verdict-bits g [] cycles
      go false = refl

  same_end : (o : Outcome) → graph_end (λ g. true) (λ c. true) o ≡ true
  unfolding graph_end
  same_end (refused c) = refl
  same_end (accepted g) = go (leb (variables_of false g) 4095)
    where
      go : (b : Bool) → cond b true true ≡ true
      go true = refl
      go false = refl

  judged-bits : bits (judge_of text trace buffer) ≡ true
  unfolding bits_in
  judged-bits = judge_end_lem text trace buffer bits (λ g. true) (λ c. true) trace-bits (λ c. refl) ∙ same_end (graph_of text)

  pub done_printable : (name : List ℕ) {r : Result (Tally × Verdict) Cause} {left : List ℕ} → judge_end r left ≡ judge_of text trace buffer → {t : Tally} {v : Verdict} → r ≡ Ok (t, v)
      → is_graph_name name ≡ true → Printable name (take t.cycles left)
  unfolding bits_in
  done_printable name {r} {left} e h named =
      let all : bits_in r left ≡ true = ap bits e ∙ judged-bits in
      printable name _ named (rw h at all)
