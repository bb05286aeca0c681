-- What a judgement gives to those who print it. Assumes nothing.
use Rattle.std.specs.Prelude.{Result, Ok, Err}
use mathlib.Core.Path.{◌≡◌, refl, sym, subst}
use mathlib.Core.Bool.{Bool, true, false, cond, not}
use mathlib.Core.List.{List, [], ◌++◌}
use Prim.Native.Nat.{ℕ, ◌+◌, ◌*◌, ◌≤◌}
use native.Mathlib.Nat.{mul-le-mul_left}
use native.Mathlib.Omega.{arith}
use borrow.Author.Tests.{leb-true, le-leb}
use lib.Dec.{eqb, leb}
use lib.ListN.{length, drop}
use Rattle.assertion.specs.Graph.{Bytes, Graph, signal_bits}
use Rattle.assertion.specs.Paths as paths
use Rattle.assertion.specs.Paths.{count_rejected}
use Rattle.graph.specs.Reading.{Outcome, refused, accepted, graph_of}
use Rattle.builder.specs.declared.Cause as builder
use Rattle.builder.specs.declared.Cause.TheVariants.{GraphText, TooManyVariables}
use Rattle.builder.specs.Build.{variables_of}
use Rattle.calls.specs.declared.refusal.Cause.TheVariants.{TraceTooLong, WrongLine, ShortBuffer}
use Rattle.calls.specs.Refusals.{is_short}
use Rattle.trace.specs.Traces.{fault_of, line_count, cycles_of}
use Rattle.trace.proofs.TraceLaws.{lines_fit, length-cycles}
use Rattle.calls.specs.declared.tally.Tally.{Tally}
use Rattle.simulator.specs.declared.outcome.Verdict.{Verdict}
use Rattle.simulator.specs.Run.{verdict_of}
use Rattle.demand.proofs.Held.{verdicts-length}
use Rattle.judge.specs.declared.Cause.{Cause}
use Rattle.judge.specs.declared.Cause.TheVariants as cause
use Rattle.judge.specs.Judge.{inputs_of, JudgeEnd, judge_end, trace_judged, judge_as, judge_of}
use Rattle.judge.proofs.BuildLaws.{graph_end}

-- a line has two bytes at least
pub cycles-most : (g : Graph) (trace : Bytes) → length (cycles_of (inputs_of g) trace) * 2 ≤ length trace
unfolding inputs_of
cycles-most g trace =
    let n = line_count (1 + signal_bits g) trace in
    let two : n * 2 ≤ n * (1 + signal_bits g + 1) = mul-le-mul_left n (omega arith) in
    omega (arith, two, lines_fit (1 + signal_bits g) trace, length-cycles (1 + signal_bits g) trace)

-- how many cycles were judged
unfoldable cycles_in : Result (Tally × Verdict) Cause → ℕ
cycles_in (Ok (t, v)) = t.cycles
cycles_in (Err c) = 0

-- ---- a trace that is judged by a graph
module _ (g : Graph) (trace : Bytes) (buffer : List ℕ) where
  abbrev cycles : List Bytes
  cycles = cycles_of (inputs_of g) trace

  abbrev judged : List ℕ
  judged = paths.verdicts g [] cycles

  abbrev done : JudgeEnd
  done = judge_end (Ok (record { cycles = length cycles; rejected = count_rejected g cycles; checked = 0 }, verdict_of judged)) (judged ++ drop (length judged) buffer)

  abbrev wrong : JudgeEnd
  wrong = judge_end (Err (cause.Trace (WrongLine (fault_of (inputs_of g) trace)))) buffer

  -- of a trace that is short enough, with a byte for each two of its own, only a wrong line is refused
  pub room-judged : length trace ≤ 1048576 → length trace ≤ length buffer * 2
      → trace_judged g trace buffer ≡ cond (eqb (fault_of (inputs_of g) trace) 0) done wrong
  unfolding trace_judged is_short
  room-judged short room =
      rw (
        le-leb (length trace) 1048576 short,
        le-leb (length judged) (length buffer) (omega (arith, verdicts-length g [] cycles, cycles-most g trace)),
      )
      (go (eqb (fault_of (inputs_of g) trace) 0))
    where
      go : (b : Bool) → cond (not b) wrong done ≡ cond b done wrong
      go true = refl
      go false = refl

  -- its cycles are no more than there are bytes
  trace-within : cycles_in (trace_judged g trace buffer).answer ≤ length buffer
  unfolding trace_judged cycles_in
  trace-within = go (is_short trace) (eqb (fault_of (inputs_of g) trace) 0) (leb (length judged) (length buffer)) refl
    where
      go : (s f l : Bool) → leb (length judged) (length buffer) ≡ l
          → cycles_in (cond (not s) (judge_end (Err (cause.Trace TraceTooLong)) buffer) (cond (not f) wrong (cond (not l) (judge_end (Err (cause.Trace ShortBuffer)) buffer) done))).answer
          ≤ length buffer
      go false f l e = omega arith
      go true false l e = omega arith
      go true true false e = omega arith
      go true true true e = omega (arith, leb-true (length judged) (length buffer) e, verdicts-length g [] cycles)

-- ---- a trace that is judged by a graph text
module _ (text trace : Bytes) (buffer : List ℕ) where
  -- what f makes of a judgement, where it makes `accept g` of that by a graph g, and `refuse c` of a graph text refused
  -- with cause c
  pub judge_end_lem : {A : Type 0} (f : JudgeEnd → A) (accept : Graph → A) (refuse : builder.Cause → A)
      → ((g : Graph) → f (trace_judged g trace buffer) ≡ accept g)
      → ((c : builder.Cause) → f (judge_end (Err (cause.Graph c)) buffer) ≡ refuse c)
      → f (judge_of text trace buffer) ≡ graph_end accept refuse (graph_of text)
  unfolding judge_of judge_as graph_end
  judge_end_lem {A} f accept refuse a r = go (graph_of text)
    where
      by : (b : Bool) (x y : JudgeEnd) (v w : A) → f x ≡ v → f y ≡ w → f (cond b x y) ≡ cond b v w
      by true x y v w p q = p
      by false x y v w p q = q

      go : (o : Outcome) → f (judge_as o trace buffer) ≡ graph_end accept refuse o
      go (refused c) = r (GraphText c)
      go (accepted g) = by (leb (variables_of false g) 4095) _ _ _ _ (a g) (r TooManyVariables)

  all-within : cycles_in (judge_of text trace buffer).answer ≤ length buffer
  unfolding judge_of judge_as cycles_in
  all-within = go (graph_of text)
    where
      by : (b : Bool) (x : JudgeEnd) (c : builder.Cause) → cycles_in x.answer ≤ length buffer
          → cycles_in (cond b x (judge_end (Err (cause.Graph c)) buffer)).answer ≤ length buffer
      by true x c h = h
      by false x c h = omega arith

      go : (o : Outcome) → cycles_in (judge_as o trace buffer).answer ≤ length buffer
      go (refused c) = omega arith
      go (accepted g) = by (leb (variables_of false g) 4095) (trace_judged g trace buffer) TooManyVariables (trace-within g trace buffer)

  pub done_within : {r : Result (Tally × Verdict) Cause} {left : List ℕ} → judge_end r left ≡ judge_of text trace buffer → {t : Tally} {v : Verdict} → r ≡ Ok (t, v)
      → t.cycles ≤ length buffer
  unfolding cycles_in
  done_within {r} e h =
      let all : cycles_in r ≤ length buffer = subst (λ (x : JudgeEnd). cycles_in x.answer ≤ length buffer) (sym e) all-within in
      rw h at all
