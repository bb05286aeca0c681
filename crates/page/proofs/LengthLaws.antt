-- How long a page is at most: 250,991 bytes for the monitor's, 65,536 for those of AIGER files. Assumes nothing.
use Rattle.std.specs.Prelude.{Ok}
use mathlib.Core.Path.{◌≡◌, refl, ap, ◌∙◌}
use mathlib.Core.Bool.{Bool, true, false, cond}
use mathlib.Core.List.{List, [], ◌∷◌, ◌++◌}
use Prim.Native.Nat.{ℕ, zero, suc, ◌+◌, ◌-◌, ◌*◌, ◌≤◌, ◌<◌}
use native.Mathlib.Nat.{mul-suc}
use native.Mathlib.Omega.{arith}
use borrow.Author.Tests.{leb-true, le-leb, ltb-true, ltb-false}
use lib.Dec.{eqb, leb, ltb}
use lib.ListN.{length, get_or, take, length-append, length-take, length-drop}
use Rattle.text.specs.declared.Refusal.{Refusal}
use Rattle.text.specs.Writer.{joined}
use Rattle.text.proofs.NumberLaws.{tens, digits-length}
use Rattle.assertion.specs.Lists.{any, lists}
use Rattle.assertion.specs.Graph.{Bytes, Edge, Graph, Cycle, Setting, constant_bits}
use Rattle.assertion.specs.Paths.{since_init, rejects_along, rejected_under, is_rejected, verdicts, sum, count_rejected}
use Rattle.graph.specs.declared.Cause as graph
use Rattle.graph.specs.Reading as reading
use Rattle.graph.specs.Reading.{Outcome, refused, accepted, graph_of}
use Rattle.circuit.specs.Build.{gates_of}
use Rattle.circuit.specs.Numbers.{numbers_of}
use Rattle.builder.specs.Build as build
use Rattle.builder.specs.Build.{variables_of, build_as, build_of}
use Rattle.builder.specs.Claims.{BuildMeans}
use Rattle.builder.specs.declared.Cause.TheVariants.{TooManyVariables}
use Rattle.simulator.specs.declared.outcome.Verdict.{Verdict}
use Rattle.simulator.specs.declared.outcome.Verdict.TheVariants.{Accepted, Rejected}
use Rattle.calls.specs.declared.refusal.Cause.TheVariants.{WrongLine}
use Rattle.calls.specs.Refusals as simulator
use Rattle.trace.specs.Traces.{fault_of, cycles_of}
use Rattle.simulator.specs.Run.{verdict_of}
use Rattle.trace.proofs.TraceLaws.{fault-bound}
use Rattle.demand.proofs.Held.{verdicts-length}
use Rattle.judge.specs.Judge.{inputs_of}
use Rattle.judge.proofs.BuildLaws.{numbers-most}
use Rattle.judge.proofs.EndLaws.{cycles-most}
use Rattle.aiger.proofs.LengthLaws.{joined_length}
use Rattle.page_text.specs.Parts.{graph_length, graph_part, trace_part}
use Rattle.page_text.specs.Lines.{field, refused_line, rejected_line, verdict_field, sum_line, cycle_line, report}
use Rattle.page.specs.Pages.{input_refusal, graph_page, judgement, trace_page, monitor_text}
use Rattle.page.specs.Private.Files.{file_in, file_text}
use Rattle.page.specs.declared.InputFault.TheVariants.{TooLong}
use Rattle.page.proofs.BuildLaws.{file-short, made_netlist, made_file}
use Rattle.page.proofs.SizeLaws.{graph-size, graph_line, graph-number}

-- ---- lines, by the digits of their numbers
pub field_length_lem : (k n : ℕ) → n < tens (suc k) → length (field n) ≤ suc (suc k)
unfolding field
field_length_lem k n h = omega (arith, digits-length k n h)

pub refused-length : (r : Refusal) → r.number < 100 → r.line < 100000 → length (refused_line r) ≤ 17
unfolding refused_line
refused-length r hn hl =
    let a = field_length_lem 1 r.number (omega arith) in
    let b = field_length_lem 4 r.line (omega arith) in
    omega (arith, length-append (field r.number) (field r.line ++ (10 ∷ [])), length-append (field r.line) (10 ∷ []))

verdict-length : (v : Verdict) → length (verdict_field v) ≡ 10
unfolding verdict_field
verdict-length Accepted = refl
verdict-length Rejected = refl

sum-length : (c j : ℕ) (v : Verdict) → c < 100000 → j < 100000 → length (sum_line c j v) ≤ 25
unfolding sum_line
sum-length c j v hc hj =
    let a = field_length_lem 4 c (omega arith) in
    let b = field_length_lem 4 j (omega arith) in
    omega (arith, length-append (field c) (field j ++ verdict_field v), length-append (field j) (verdict_field v), verdict-length v)

-- ---- the lines of the rejected cycles
module _ (bytes : List ℕ) where
  cycle-length : (d k : ℕ) → k + 1 < tens (suc d) → length (cycle_line bytes k) ≤ 4 + d
  unfolding cycle_line rejected_line
  cycle-length d k h = go (eqb (get_or bytes k 0) 1)
    where
      go : (b : Bool) → length (cond b ((82 ∷ []) ++ (field (k + 1) ++ (10 ∷ []))) []) ≤ 4 + d
      go true = omega (arith, length-append (field (k + 1)) (10 ∷ []), field_length_lem d (k + 1) h)
      go false = omega arith

  -- the bytes of the first m cycles' lines
  unfoldable up_to : ℕ → ℕ
  up_to m = length (joined (cycle_line bytes) m)

  -- c bytes at most for each cycle from a on
  up_to_lem : (c a m : ℕ) → a ≤ m → ((k : ℕ) → a ≤ k → k < m → length (cycle_line bytes k) ≤ c) → up_to m + c * a ≤ up_to a + c * m
  unfolding up_to
  up_to_lem c a zero l h = let z : a ≡ 0 = omega arith in rw z (omega arith)
  up_to_lem c a (suc m) l h = go (λ i. up_to_lem c a m i (λ k j n. h k j (omega arith))) (ltb m a) refl
    where
      go : (a ≤ m → up_to m + c * a ≤ up_to a + c * m) → (b : Bool) → ltb m a ≡ b → up_to (suc m) + c * a ≤ up_to a + c * suc m
      go r true e = let z : a ≡ suc m = omega (arith, ltb-true m a e) in rw z (omega arith)
      go r false e =
          let i : a ≤ m = ltb-false m a e in
          rw (length-append (joined (cycle_line bytes) m) (cycle_line bytes m), mul-suc c m) (omega (arith, r i, h m i (omega arith)))

  up_none : up_to 0 ≡ 0
  unfolding up_to
  up_none = refl

  -- cycles of one digit, of two, three, four and five
  lines-most : (m : ℕ) → m ≤ 32759 → up_to m ≤ 250966
  lines-most m l = go (ltb m 9999) refl
    where
      go : (b : Bool) → ltb m 9999 ≡ b → up_to m ≤ 250966
      go true e = omega (arith, ltb-true m 9999 e, up_none, up_to_lem 7 0 m (omega arith) (λ k i j. cycle-length 3 k (omega (arith, ltb-true m 9999 e))))
      go false e =
          let one = up_to_lem 4 0 9 (omega arith) (λ k i j. cycle-length 0 k (omega arith)) in
          let two = up_to_lem 5 9 99 (omega arith) (λ k i j. cycle-length 1 k (omega arith)) in
          let three = up_to_lem 6 99 999 (omega arith) (λ k i j. cycle-length 2 k (omega arith)) in
          let four = up_to_lem 7 999 9999 (omega arith) (λ k i j. cycle-length 3 k (omega arith)) in
          let five = up_to_lem 8 9999 m (ltb-false m 9999 e) (λ k i j. cycle-length 4 k (omega arith)) in
          omega (arith, up_none)

-- ---- a graph without an edge rejects nothing
no_edge : (g : Graph) (σ : Setting) (w : List Cycle) → g.edges ≡ [] → rejected_under g σ w ≡ false
unfolding rejected_under rejects_along
no_edge g σ w e = ap (λ (es : List Edge). any (rejects_along g σ (since_init w)) (lists (length (since_init w)) es)) e ∙ go (since_init w)
  where
    go : (c : List Cycle) → any (rejects_along g σ c) (lists (length c) []) ≡ false
    go [] = refl
    go (c ∷ cs) = refl

any_none : {A : Type 0} (f : A → Bool) (l : List A) → ((x : A) → f x ≡ false) → any f l ≡ false
any_none f [] h = refl
any_none f (x ∷ xs) h = rw (h x, any_none f xs h)

pub none-rejected : (g : Graph) (seen cs : List Cycle) (k : ℕ) → g.edges ≡ [] → get_or (verdicts g seen cs) k 0 ≡ 0
unfolding is_rejected
none-rejected g seen [] k e = refl
none-rejected g seen (c ∷ cs) zero e =
    ap (λ (b : Bool). cond b 1 0)
    (any_none (λ σ. rejected_under g σ (seen ++ (c ∷ []))) (lists (constant_bits g) (false ∷ true ∷ [])) (λ σ. no_edge g σ (seen ++ (c ∷ [])) e))
none-rejected g seen (c ∷ cs) (suc k) e = none-rejected g (seen ++ (c ∷ [])) cs k e

pub sum-most : (g : Graph) (seen cs : List Cycle) → sum (verdicts g seen cs) ≤ length cs
sum-most g seen [] = omega arith
sum-most g seen (c ∷ cs) = go (is_rejected g (seen ++ (c ∷ []))) (sum-most g (seen ++ (c ∷ [])) cs)
  where
    go : (b : Bool) → sum (verdicts g (seen ++ (c ∷ [])) cs) ≤ length cs → cond b 1 0 + sum (verdicts g (seen ++ (c ∷ [])) cs) ≤ suc (length cs)
    go true l = omega arith
    go false l = omega arith

-- ---- the page of a trace of cycles
module _ (g : Graph) (cs : List Bytes) where
  last_line : length cs < 100000 → length (sum_line (length cs) (count_rejected g cs) (verdict_of (verdicts g [] cs))) ≤ 25
  unfolding count_rejected
  last_line h = sum-length (length cs) (sum (verdicts g [] cs)) (verdict_of (verdicts g [] cs)) h (omega (arith, sum-most g [] cs))

  page-length : length (judgement g cs) ≡ up_to (verdicts g [] cs) (length cs) + length (sum_line (length cs) (count_rejected g cs) (verdict_of (verdicts g [] cs)))
  unfolding judgement report up_to
  page-length =
      length-append (joined (cycle_line (verdicts g [] cs)) (length (verdicts g [] cs))) (sum_line (length cs) (count_rejected g cs) (verdict_of (verdicts g [] cs)))
      ∙ ap (λ (n : ℕ). length (joined (cycle_line (verdicts g [] cs)) n) + length (sum_line (length cs) (count_rejected g cs) (verdict_of (verdicts g [] cs)))) (verdicts-length g [] cs)

  judgement-most : length cs ≤ 32759 → length (judgement g cs) ≤ 250991
  judgement-most h = omega (arith, page-length, last_line (omega arith), lines-most (verdicts g [] cs) (length cs) h)

  judgement-none : g.edges ≡ [] → length cs ≤ 32768 → length (judgement g cs) ≤ 250991
  unfolding up_to cycle_line
  judgement-none e h =
      let f = joined_length (cycle_line (verdicts g [] cs)) 0 (length cs) (λ k l. rw (none-rejected g [] cs k e) (omega arith)) in
      omega (arith, page-length, last_line (omega arith), f)

-- ---- the page of a trace
pub line_small : (trace : Bytes) → length trace ≤ 65536 → (n : ℕ) → fault_of n trace < 100000
line_small trace short n = omega (arith, fault-bound n trace)

module _ (g : Graph) (trace : Bytes) (short : length trace ≤ 65536) where
  judged-most : (1 ≤ length g.edges → length trace ≤ 65518) → length (judgement g (cycles_of (inputs_of g) trace)) ≤ 250991
  judged-most h = go g.edges refl
    where
      go : (es : List Edge) → g.edges ≡ es → length (judgement g (cycles_of (inputs_of g) trace)) ≤ 250991
      go [] e = judgement-none g (cycles_of (inputs_of g) trace) e (omega (arith, cycles-most g trace))
      go (x ∷ xs) e =
          let some : 1 ≤ length g.edges = omega (arith, ap length e) in
          judgement-most g (cycles_of (inputs_of g) trace) (omega (arith, cycles-most g trace, h some))

  trace-most : (1 ≤ length g.edges → length trace ≤ 65518) → length (trace_page trace g) ≤ 250991
  unfolding trace_page simulator.refusal_of
  trace-most h = go (eqb (fault_of (inputs_of g) trace) 0)
    where
      go : (b : Bool)
          → length (cond b (judgement g (cycles_of (inputs_of g) trace)) (refused_line (simulator.refusal_of (WrongLine (fault_of (inputs_of g) trace))))) ≤ 250991
      go true = judged-most h
      go false = omega (arith, refused-length (simulator.refusal_of (WrongLine (fault_of (inputs_of g) trace))) (omega arith) (line_small trace short (inputs_of g)))

-- ---- the page of a graph text
module _ (text : Bytes) (print : Graph → Bytes) (most : ℕ) (some : 17 ≤ most)
    (fits : (g : Graph) → graph_of text ≡ accepted g → variables_of false g ≤ 4095 → length (print g) ≤ most) where
  refused-most : (cause : graph.Cause) → graph_of text ≡ refused cause → length (graph_page (refused cause) print) ≤ most
  unfolding graph_page build.refusal_of
  refused-most cause e = omega (arith, refused-length (reading.refusal_of cause) (graph-number cause) (graph_line text cause e))

  accepted-most : (g : Graph) → graph_of text ≡ accepted g → length (graph_page (accepted g) print) ≤ most
  unfolding graph_page build.refusal_of
  accepted-most g e = go (leb (variables_of false g) 4095) refl
    where
      go : (b : Bool) → leb (variables_of false g) 4095 ≡ b → length (cond b (print g) (refused_line (build.refusal_of TooManyVariables))) ≤ most
      go true l = fits g e (leb-true (variables_of false g) 4095 l)
      go false l = omega (arith, refused-length (build.refusal_of TooManyVariables) (omega arith) (omega arith))

  pub page-most : length (graph_page (graph_of text) print) ≤ most
  page-most = go (graph_of text) refl
    where
      go : (o : Outcome) → graph_of text ≡ o → length (graph_page o print) ≤ most
      go (refused cause) e = refused-most cause e
      go (accepted g) e = accepted-most g e

-- ---- the monitor's page
module _ (input : Bytes) where
  -- a graph with an edge has 16 bytes at least, and the line `T` has two
  pub trace-short : (g : Graph) → graph_of (graph_part input) ≡ accepted g → 1 ≤ length g.edges → length (trace_part input) ≤ length input - 18
  unfolding graph_part trace_part
  trace-short g e some =
      let s = graph-size (take (graph_length input) input) g e in
      omega (arith, s.0, s.1, length-take (graph_length input) input, length-drop (graph_length input + 2) input)

  pub trace-any : length input ≤ 65536 → length (trace_part input) ≤ 65536
  unfolding trace_part
  trace-any short = omega (arith, length-drop (graph_length input + 2) input)

  pub monitor_fits : length (monitor_text input) ≤ 250991
  unfolding monitor_text input_refusal
  monitor_fits = go (leb (length input) 65536) refl
    where
      go : (b : Bool) → leb (length input) 65536 ≡ b
          → length (cond b (graph_page (graph_of (graph_part input)) (trace_page (trace_part input))) (refused_line (input_refusal TooLong))) ≤ 250991
      go true l =
          let short = leb-true (length input) 65536 l in
          page-most (graph_part input) (trace_page (trace_part input)) 250991 (omega arith)
          (λ g e v. trace-most g (trace_part input) (trace-any short) (λ some. omega (arith, short, trace-short g e some)))
      go false l = omega (arith, refused-length (input_refusal TooLong) (omega arith) (omega arith))

-- ---- the page of an AIGER file
module _ (buffer : List ℕ) (enough : 8194 ≤ length buffer) (text : Bytes) (means : BuildMeans false text buffer) where
  builds : (g : Graph) → graph_of text ≡ accepted g → variables_of false g ≤ 4095 → (build_of false text buffer).answer ≡ Ok (length (gates_of g))
  unfolding build_of build_as
  builds g e l = rw (e, le-leb (variables_of false g) 4095 l, le-leb (length (numbers_of g)) (length buffer) (omega (arith, numbers-most g l)))

  module _ (packed : Bool) where
    file-most : (g : Graph) → graph_of text ≡ accepted g → variables_of false g ≤ 4095 → length (file_in packed (numbers_of g)) ≤ 65536
    unfolding graph_page file_text
    file-most g e l =
        let h = builds g e l in
        let net = (build_of false text buffer).net in
        let made = length (gates_of g) in
        let same : file_in packed net ≡ file_in packed (numbers_of g) = made_file buffer enough text means made h packed ∙ rw (e, le-leb (variables_of false g) 4095 l) in
        omega (arith, ap length same, file-short packed net (made_netlist buffer enough text means made h))

    pub file-fits : length (file_text packed text) ≤ 65536
    unfolding file_text
    file-fits = page-most text (λ g. file_in packed (numbers_of g)) 65536 (omega arith) file-most
