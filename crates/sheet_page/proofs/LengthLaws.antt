-- No sheet is longer than 265,518 bytes: a graph with an edge has 16 bytes at least, the name and `T` four with their LFs,
-- and one without an edge rejects nothing. Assumes nothing.
use mathlib.Core.Path.{◌≡◌, refl, ap}
use mathlib.Core.Bool.{Bool, true, false, cond, not}
use mathlib.Core.List.{List, [], ◌∷◌}
use Prim.Native.Nat.{ℕ, ◌+◌, ◌-◌, ◌*◌, ◌/◌, ◌≤◌, ◌<◌}
use native.Mathlib.Decide.{dec_lt}
use native.Mathlib.Omega.{arith}
use borrow.Author.Tests.{leb-true}
use lib.Dec.{eqb, leb}
use lib.ListN.{length, get_or}
use Rattle.assertion.specs.Graph.{Bytes, Edge, Graph, Cycle}
use Rattle.assertion.specs.Paths.{verdicts}
use Rattle.trace.specs.Traces.{fault_of, cycles_of}
use Rattle.calls.specs.declared.refusal.Cause.TheVariants.{WrongLine}
use Rattle.calls.specs.Refusals as simulator
use Rattle.demand.proofs.Held.{verdicts-length}
use Rattle.judge.specs.Judge.{inputs_of}
use Rattle.judge.proofs.EndLaws.{cycles-most}
use Rattle.page_text.specs.Parts.{graph_part, trace_part}
use Rattle.page_text.specs.Lines.{refused_line}
use Rattle.page.proofs.LengthLaws.{refused-length, none-rejected, line_small, page-most, trace-short, trace-any}
use Rattle.session_text.specs.Pages.{rejected_of, session_page}
use Rattle.session_text.proofs.RejectedLaws.{rejected-most, rejected-are}
use Rattle.session_text.proofs.PageLaws.{page-length}
use Rattle.sheet_page.specs.declared.InputFault.TheVariants.{TooLong, NoGraphName}
use Rattle.sheet_page.specs.Sheets.{input_refusal, first_line, after_line, has_name, trace_sheet, sheet_text}
use Rattle.sheet_page.proofs.NameLaws.{named_so, rest_shorter}
use Rattle.sheet_page.proofs.SheetLaws.{rest_sheet}

-- ---- the page of cycles
none-listed : (g : Graph) (cs : List Cycle) → g.edges ≡ [] → length (rejected_of (verdicts g [] cs)) ≡ 0
none-listed g cs e = go (dec_lt 0 (length (rejected_of (verdicts g [] cs))))
  where
    go : Dec (0 < length (rejected_of (verdicts g [] cs))) → length (rejected_of (verdicts g [] cs)) ≡ 0
    go (yes l) =
        let k = get_or (rejected_of (verdicts g [] cs)) 0 0 - 1 in
        absurd (omega (arith, (rejected-are (verdicts g [] cs)).judged 0 l, none-rejected g [] cs k e))
    go (no l) = omega arith

module _ (name : List ℕ) (most : length name ≤ 24) (g : Graph) (cs : List Cycle) where
  session_length : length cs ≤ 524288 → length (session_page name (verdicts g [] cs)) ≡ 81 * (2 + (length (rejected_of (verdicts g [] cs)) + 9) / 10)
  session_length h = page-length name (verdicts g [] cs) most (omega (arith, verdicts-length g [] cs))

  session_most : length cs ≤ 32758 → length (session_page name (verdicts g [] cs)) ≤ 265518
  session_most h = omega (arith, session_length (omega arith), rejected-most 1 (verdicts g [] cs), verdicts-length g [] cs)

  session_none : g.edges ≡ [] → length cs ≤ 524288 → length (session_page name (verdicts g [] cs)) ≤ 265518
  session_none e h = omega (arith, session_length h, none-listed g cs e)

-- ---- the page of a trace
module _ (name : List ℕ) (most : length name ≤ 24) (g : Graph) (trace : Bytes) (short : length trace ≤ 65536) (some : 1 ≤ length g.edges → length trace ≤ 65516) where
  abbrev cycles : List Bytes
  cycles = cycles_of (inputs_of g) trace

  judged-most : length (session_page name (verdicts g [] cycles)) ≤ 265518
  judged-most = go g.edges refl
    where
      go : (es : List Edge) → g.edges ≡ es → length (session_page name (verdicts g [] cycles)) ≤ 265518
      go [] e = session_none name most g cycles e (omega (arith, cycles-most g trace))
      go (x ∷ xs) e =
          let one : 1 ≤ length g.edges = omega (arith, ap length e) in
          session_most name most g cycles (omega (arith, cycles-most g trace, some one))

  trace-most : length (trace_sheet name trace g) ≤ 265518
  unfolding trace_sheet simulator.refusal_of
  trace-most = go (eqb (fault_of (inputs_of g) trace) 0)
    where
      wrong : Bytes
      wrong = refused_line (simulator.refusal_of (WrongLine (fault_of (inputs_of g) trace)))

      go : (b : Bool) → length (cond b (session_page name (verdicts g [] cycles)) wrong) ≤ 265518
      go true = judged-most
      go false = omega (arith, refused-length (simulator.refusal_of (WrongLine (fault_of (inputs_of g) trace))) (omega arith) (line_small trace short (inputs_of g)))

-- ---- the page of an input
rest-most : (name rest : List ℕ) → length name ≤ 24 → length rest ≤ 65534 → length (rest_sheet name rest) ≤ 265518
rest-most name rest most short =
    page-most (graph_part rest) (trace_sheet name (trace_part rest)) 265518 (omega arith)
    (λ g e v. trace-most name most g (trace_part rest) (trace-any rest (omega arith)) (λ some. omega (arith, trace-short rest g e some)))

pub sheet-fits : (input : Bytes) → length (sheet_text input) ≤ 265518
unfolding sheet_text input_refusal
sheet-fits input = go (leb (length input) 65536) refl (has_name input) refl
  where
    go : (a : Bool) → leb (length input) 65536 ≡ a → (b : Bool) → has_name input ≡ b
        → length
        (cond (not a) (refused_line (input_refusal TooLong)) (cond (not b) (refused_line (input_refusal NoGraphName)) (rest_sheet (first_line input) (after_line input))))
        ≤ 265518
    go false l b h = omega (arith, refused-length (input_refusal TooLong) (omega arith) (omega arith))
    go true l false h = omega (arith, refused-length (input_refusal NoGraphName) (omega arith) (omega arith))
    go true l true h =
        let short = leb-true (length input) 65536 l in
        let n = named_so input short h in
        rest-most (first_line input) (after_line input) n.named.most (omega (arith, short, rest_shorter n))
