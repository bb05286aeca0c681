-- What is printed of an input is what the contract claims. Assumes nothing.
use Rattle.std.specs.Prelude.{Result, Ok, Err}
use mathlib.Core.Path.{◌≡◌, refl, sym, ap, subst, ◌∙◌}
use mathlib.Core.Bool.{Bool, true, false, cond, true≢false}
use mathlib.Core.List.{List, [], ◌++◌, append_assoc}
use Prim.Native.Nat.{ℕ, zero, suc, ◌+◌, ◌<◌, ◌≤◌}
use native.Mathlib.Decide.{dec_le}
use native.Mathlib.Omega.{arith}
use borrow.Author.Tests.{le-leb, lt-leb, ne_eqb}
use lib.Dec.{eqb, leb}
use lib.ListN.{length, get_or, drop}
use Rattle.text.specs.Quoted.{bytes}
use Rattle.text.specs.declared.Refusal.{Refusal}
use Rattle.text.specs.Numbers.{digits, digits_of}
use Rattle.text.specs.Writer.{joined}
use Rattle.assertion.specs.Graph.{Bytes, Graph, signal_bits}
use Rattle.assertion.specs.Paths.{verdicts, PathsMean}
use Rattle.assertion.proofs.PathLaws.{paths_mean}
use Rattle.graph.specs.declared.Cause.{Cause}
use Rattle.graph.specs.Reading as reading
use Rattle.graph.specs.Reading.{Outcome, refused, accepted, graph_of}
use Rattle.builder.specs.Build as build
use Rattle.builder.specs.Build.{variables_of}
use Rattle.builder.specs.declared.Cause.TheVariants.{TooManyVariables}
use Rattle.trace.specs.Traces.{fault_of, cycles_of}
use Rattle.trace.proofs.LineLaws.{trace-means}
use Rattle.calls.specs.Refusals as simulator
use Rattle.calls.specs.declared.refusal.Cause.TheVariants.{WrongLine}
use Rattle.demand.proofs.Held.{verdicts-length}
use Rattle.judge.specs.Judge.{inputs_of}
use Rattle.judge.proofs.EndLaws.{cycles-most}
use Rattle.page_text.specs.Parts.{graph_part, trace_part}
use Rattle.page_text.proofs.ClaimLaws.{parts_are}
use Rattle.page_text.specs.Lines.{field, refused_line, rejected_line, sum_line, cycle_line, report}
use Rattle.page.specs.declared.Cause as page
use Rattle.page.specs.declared.Cause.TheVariants.{ShortBuffer}
use Rattle.page.specs.Pages.{graph_page, judgement, trace_page, monitor_text, refusal_of, PageEnd, page_end, page_of}
use Rattle.page.proofs.LengthLaws.{trace-any}
use Rattle.session_text.specs.Pages.{rejected_of, session_page}
use Rattle.session_text.proofs.FieldLaws.{decimal}
use Rattle.session_text.proofs.RejectedLaws.{rejected-are}
use Rattle.session_text.proofs.PageLaws.{in_columns}
use Rattle.sheet_page.specs.declared.InputFault.TheVariants.{TooLong, NoGraphName}
use Rattle.sheet_page.specs.Sheets.{input_refusal, has_name, trace_sheet, sheet_text}
use Rattle.sheet_page.specs.Claims.{Printed, Named, RefusedText, PrintsRefusal, SheetMeans, AsMonitor}
use Rattle.sheet_page.specs.Claims.SheetMeans.{too_long, no_name, no_graph, too_large, wrong-line, sheet}
use Rattle.sheet_page.specs.Claims.Printed.{whole as printed-whole, short as printed-short}
use Rattle.sheet_page.proofs.NameLaws.{not_named, has_name_lem, named_so, rest_shorter}
use Rattle.sheet_page.proofs.LengthLaws.{sheet-fits}
use Rattle.sheet_page.proofs.SheetLaws.{rest_sheet, long-sheet, unnamed_sheet, named-sheet}

-- ---- no judgement is the line of a refusal: it starts with `R` or `s`
abbrev first : List ℕ → ℕ
first s = get_or s 0 0

refused-first : (r : Refusal) → first (refused_line r) ≡ 114
unfolding refused_line
refused-first r = refl

cycles-first : (judged : List ℕ) (n : ℕ) (tail : List ℕ) → (first tail ≡ 114 → ⊥) → first (joined (cycle_line judged) n ++ tail) ≡ 114 → ⊥
unfolding cycle_line rejected_line
cycles-first judged zero tail h e = h e
cycles-first judged (suc n) tail h e =
    cycles-first judged n (cycle_line judged n ++ tail) (line (eqb (get_or judged n 0) 1)) (rw append_assoc at e)
  where
    line : (b : Bool) → first (cond b (rejected_line (n + 1)) [] ++ tail) ≡ 114 → ⊥
    line true z = omega arith
    line false z = h z

judgement-first : (g : Graph) (cycles : List Bytes) (r : Refusal) → judgement g cycles ≡ refused_line r → ⊥
unfolding judgement report sum_line
judgement-first g cycles r e =
    cycles-first (verdicts g [] cycles) (length (verdicts g [] cycles)) _ (λ z. omega arith) (ap first e ∙ refused-first r)

-- ---- what the monitor refuses is refused alike
module _ (r : Refusal) where
  trace-alike : (name trace : Bytes) (g : Graph) → trace_page trace g ≡ refused_line r → trace_sheet name trace g ≡ refused_line r
  unfolding trace_page trace_sheet
  trace-alike name trace g = go (eqb (fault_of (inputs_of g) trace) 0)
    where
      cycles : List Bytes
      cycles = cycles_of (inputs_of g) trace

      wrong : Bytes
      wrong = refused_line (simulator.refusal_of (WrongLine (fault_of (inputs_of g) trace)))

      go : (b : Bool) → cond b (judgement g cycles) wrong ≡ refused_line r → cond b (session_page name (verdicts g [] cycles)) wrong ≡ refused_line r
      go true e = absurd (judgement-first g cycles r e)
      go false e = e

  graph-alike : (p q : Graph → Bytes) → ((g : Graph) → p g ≡ refused_line r → q g ≡ refused_line r)
      → (o : Outcome) → graph_page o p ≡ refused_line r → graph_page o q ≡ refused_line r
  unfolding graph_page
  graph-alike p q alike (refused c) e = e
  graph-alike p q alike (accepted g) e = go (leb (variables_of false g) 4095) e
    where
      many : Bytes
      many = refused_line (build.refusal_of TooManyVariables)

      go : (b : Bool) → cond b (p g) many ≡ refused_line r → cond b (q g) many ≡ refused_line r
      go true e = alike g e
      go false e = e

  pub rest-alike : (name rest : Bytes) → length rest ≤ 65536 → monitor_text rest ≡ refused_line r → rest_sheet name rest ≡ refused_line r
  unfolding monitor_text
  rest-alike name rest short e =
      graph-alike (trace_page (trace_part rest)) (trace_sheet name (trace_part rest)) (trace-alike name (trace_part rest))
      (graph_of (graph_part rest))
      (rw (le-leb (length rest) 65536 short) at e)

-- ---- every other input has its sheet
rest-judged : (name rest : Bytes) (g : Graph) → graph_of (graph_part rest) ≡ accepted g → variables_of false g ≤ 4095 → fault_of (inputs_of g) (trace_part rest) ≡ 0
    → rest_sheet name rest ≡ session_page name (verdicts g [] (cycles_of (inputs_of g) (trace_part rest)))
unfolding graph_page trace_sheet
rest-judged name rest g read small right = rw (read, le-leb (variables_of false g) 4095 small, right)

few-judged : (g : Graph) (trace : Bytes) → length trace ≤ 65536 → length (verdicts g [] (cycles_of (1 + signal_bits g) trace)) ≤ 524288
unfolding inputs_of
few-judged g trace short = omega (arith, verdicts-length g [] (cycles_of (1 + signal_bits g) trace), cycles-most g trace)

-- ---- the line of a refusal
refused-text : (r : Refusal) → RefusedText r.number r.line (refused_line r)
unfolding refused_line field
refused-text r =
    record { first = digits r.number; second = digits r.line; number-told = decimal r.number; line-told = decimal r.line; bytes = refl }

long-line : refused_line (input_refusal TooLong) ≡ bytes "refused\t1\t0\n"
unfolding input_refusal refused_line field digits digits_of
long-line = refl

unnamed_line : refused_line (input_refusal NoGraphName) ≡ bytes "refused\t22\t0\n"
unfolding input_refusal refused_line field digits digits_of
unnamed_line = refl

large-line : refused_line (build.refusal_of TooManyVariables) ≡ bytes "refused\t11\t0\n"
unfolding build.refusal_of refused_line field digits digits_of
large-line = refl

-- ---- what is refused of the rest
module _ (name rest : Bytes) where
  rest-refused : (c : Cause) → graph_of (graph_part rest) ≡ refused c → rest_sheet name rest ≡ refused_line (reading.refusal_of c)
  unfolding graph_page build.refusal_of
  rest-refused c e = rw e

  module _ (g : Graph) (read : graph_of (graph_part rest) ≡ accepted g) where
    rest-large : 4095 < variables_of false g → rest_sheet name rest ≡ refused_line (build.refusal_of TooManyVariables)
    unfolding graph_page
    rest-large h = rw (read, lt-leb (variables_of false g) 4095 h)

    rest-wrong : variables_of false g ≤ 4095 → (k : ℕ) → fault_of (inputs_of g) (trace_part rest) ≡ suc k → rest_sheet name rest ≡ refused_line (record { number = 15; line = suc k })
    unfolding graph_page trace_sheet simulator.refusal_of
    rest-wrong h k e = rw (read, le-leb (variables_of false g) 4095 h, e, ne_eqb (suc k) 0 (λ z. omega arith))

module _ (input : Bytes) (Prints : List ℕ → Type 0) (printed : Prints (sheet_text input)) where
  prints : {page : List ℕ} → sheet_text input ≡ page → Prints page
  prints e = subst Prints e printed

  -- ---- a name and the monitor's input
  module _ {name rest : Bytes} (n : Named input name rest) where
    refusal : (r : Refusal) → rest_sheet name rest ≡ refused_line r → PrintsRefusal r.number r.line Prints
    refusal r e = record { text = refused_line r; told = refused-text r; printed = prints (named-sheet input n ∙ e) }

    of_trace : (g : Graph) → graph_of (graph_part rest) ≡ accepted g → variables_of false g ≤ 4095 → (k : ℕ) → fault_of (inputs_of g) (trace_part rest) ≡ k → SheetMeans input Prints
    unfolding inputs_of
    of_trace g read small zero e =
        let lines = (trace-means (1 + signal_bits g) (trace_part rest)).whole e in
        let cycles = cycles_of (1 + signal_bits g) (trace_part rest) in
        let judged = verdicts g [] cycles in
        let few = few-judged g (trace_part rest) (trace-any rest (omega (arith, n.short, rest_shorter n))) in
        sheet name rest (graph_part rest) (trace_part rest) g cycles
        (record {
          rejected = rejected_of judged;
          page = session_page name judged;
          are = rejected-are judged;
          in_columns = in_columns name judged n.named.most few;
          printed = prints (named-sheet input n ∙ rest-judged name rest g read small e);
        })
        n (parts_are rest) read small lines.0 lines.1
    of_trace g read small (suc k) e =
        wrong-line name rest (graph_part rest) (trace_part rest) g k (refusal (record { number = 15; line = suc k }) (rest-wrong name rest g read small k e)) n (parts_are rest)
        read small ((trace-means (1 + signal_bits g) (trace_part rest)).first k e)

    of_size : (g : Graph) → graph_of (graph_part rest) ≡ accepted g → Dec (variables_of false g ≤ 4095) → SheetMeans input Prints
    of_size g read (yes small) = of_trace g read small (fault_of (inputs_of g) (trace_part rest)) refl
    of_size g read (no large) =
        too_large name rest (graph_part rest) (trace_part rest) g (prints (named-sheet input n ∙ rest-large name rest g read (omega (arith, large)) ∙ large-line)) n (parts_are rest) read
        (omega (arith, large))

    of_graph : (o : Outcome) → graph_of (graph_part rest) ≡ o → SheetMeans input Prints
    of_graph (refused c) e = no_graph name rest (graph_part rest) (trace_part rest) c (refusal (reading.refusal_of c) (rest-refused name rest c e)) n (parts_are rest) e
    of_graph (accepted g) e = of_size g e (dec_le (variables_of false g) 4095)

  -- ---- every input
  of_name : length input ≤ 65536 → (b : Bool) → has_name input ≡ b → SheetMeans input Prints
  of_name fits true e = of_graph (named_so input fits e) (graph_of (graph_part _)) refl
  of_name fits false e =
      let never : (name rest : List ℕ) → Named input name rest → ⊥ = λ name rest n. true≢false (sym (has_name_lem n) ∙ e) in
      no_name (prints (unnamed_sheet input fits (not_named input fits never) ∙ unnamed_line)) fits never

  sheet-means : SheetMeans input Prints
  sheet-means = go (dec_le (length input) 65536)
    where
      go : Dec (length input ≤ 65536) → SheetMeans input Prints
      go (yes fits) = of_name fits (has_name input) refl
      go (no long) = too_long (prints (long-sheet input (omega (arith, long)) ∙ long-line)) (omega (arith, long))

  as_monitor : AsMonitor input Prints
  as_monitor name rest n r e = prints (named-sheet input n ∙ rest-alike r name rest (omega (arith, n.short, rest_shorter n)) e)

-- ---- a page in a lent buffer is printed
pub page-printed : (text out : List ℕ) {r : Result ℕ page.Cause} {left : List ℕ} → page_end r left ≡ page_of text out → Printed text out left r
unfolding page_of refusal_of
page-printed text out {r} {left} e = go (dec_le (length text) (length out))
  where
    go : Dec (length text ≤ length out) → Printed text out left r
    go (yes l) =
        let is : page_end r left ≡ page_end (Ok (length text)) (text ++ drop (length text) out) = rw (le-leb (length text) (length out) l) at e in
        printed-whole (ap (λ (p : PageEnd). p.answer) is) (ap (λ (p : PageEnd). p.out) is) l
    go (no l) =
        let is : page_end r left ≡ page_end (Err ShortBuffer) out = rw (lt-leb (length text) (length out) (omega arith)) at e in
        printed-short (ap (λ (p : PageEnd). p.answer) is) refl (ap (λ (p : PageEnd). p.out) is) (omega arith)

-- ---- all that the contract says of an answer, which is of the page of the input
pub page-means : (input out : List ℕ) {r : Result ℕ page.Cause} {left text : List ℕ} → page_end r left ≡ page_of text out → text ≡ sheet_text input
    → (page_end r left ≡ page_of (sheet_text input) out)
    × ((length (sheet_text input) ≤ 265518) × (PathsMean × (SheetMeans input (λ page. Printed page out left r) × AsMonitor input (λ page. Printed page out left r))))
page-means input out {r} {left} e same =
    let is : page_end r left ≡ page_of (sheet_text input) out = e ∙ ap (λ (page : List ℕ). page_of page out) same in
    let printed = page-printed (sheet_text input) out is in
    (is, (sheet-fits input, (paths_mean, (sheet-means input (λ page. Printed page out left r) printed, as_monitor input (λ page. Printed page out left r) printed))))
