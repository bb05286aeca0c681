-- The pages of the programs monitor, graph2aiger and graph2aig. A refusal of what a page needs is the page's text; a page
-- itself is refused only where it does not fit into the buffer. Which cycles are rejected is said by paths. Assumes
-- nothing.
use Rattle.std.specs.Prelude.{Result, Ok, Err, ◌≡◌, ◌⊎◌, false, cond, List, [], ◌++◌, ℕ, ◌<◌, ◌≤◌, eqb, leb, length, drop}
use Rattle.text.specs.declared.Refusal.{Refusal}
use Rattle.text.specs.Quoted.{bytes}
use Rattle.text.specs.Writer.{joined}
use Rattle.assertion.specs.Graph.{Bytes, Graph}
use Rattle.assertion.specs.Paths.{verdicts, count_rejected}
use Rattle.graph.specs.Reading as graph
use Rattle.graph.specs.Reading.{Outcome, refused, accepted, graph_of}
use Rattle.graph.specs.declared.Cause.{Cause as GraphCause}
use Rattle.circuit.specs.Numbers.{numbers_with, numbers_of}
use Rattle.builder.specs.Build as build
use Rattle.builder.specs.Build.{variables_of}
use Rattle.builder.specs.declared.Cause.TheVariants.{GraphText, TooManyVariables}
use Rattle.aiger.specs.Format.{file_of}
use Rattle.packed.specs.Format.{packed_of}
use Rattle.trace.specs.Traces.{fault_of, cycles_of}
use Rattle.simulator.specs.Run.{verdict_of}
use Rattle.demand.specs.Demand.{SomeRejected}
use Rattle.calls.specs.Refusals as simulator
use Rattle.calls.specs.declared.refusal.Cause.TheVariants.{WrongLine}
use Rattle.judge.specs.Judge.{inputs_of}
use Rattle.page_text.specs.Parts.{graph_part, trace_part}
use Rattle.page_text.specs.Lines.{field, refused_line, cycle_line, report}
use Rattle.page.specs.declared.Cause.{Cause}
use Rattle.page.specs.declared.Cause.TheVariants.{ShortBuffer}
use Rattle.page.specs.declared.InputFault.{InputFault}
use Rattle.page.specs.declared.InputFault.TheVariants.{TooLong}

-- the number and line of each cause
unfoldable pub refusal_of : Cause → Refusal
refusal_of ShortBuffer = record { number = 12; line = 0 }

-- and of each fault of a whole input, whose refusal is the text of its page
unfoldable pub input_refusal : InputFault → Refusal
input_refusal TooLong = record { number = 1; line = 0 }

-- the page of a graph text: refused as build refuses it, else what is printed of its graph
unfoldable pub graph_page : Outcome → (Graph → Bytes) → Bytes
graph_page (refused cause) print = refused_line (build.refusal_of (GraphText cause))
graph_page (accepted g) print = cond (leb (variables_of false g) 4095) (print g) (refused_line (build.refusal_of TooManyVariables))

-- ---- the monitor program
-- the cycles that some setting and some rejecting path condemn, and the sum
unfoldable pub judgement : Graph → List Bytes → Bytes
judgement g cycles = let judged = verdicts g [] cycles in report judged (length cycles) (count_rejected g cycles) (verdict_of judged)

-- trace lines count from 1 after `T`
unfoldable pub trace_page : Bytes → Graph → Bytes
trace_page trace g =
    let fault = fault_of (inputs_of g) trace in
    cond (eqb fault 0) (judgement g (cycles_of (inputs_of g) trace)) (refused_line (simulator.refusal_of (WrongLine fault)))

unfoldable pub monitor_text : Bytes → Bytes
monitor_text input =
    cond (leb (length input) 65536)
    (graph_page (graph_of (graph_part input)) (trace_page (trace_part input)))
    (refused_line (input_refusal TooLong))

-- THE CLAIM on the verdict of an input that is not refused. After the lines of the rejected cycles its page has `sum`,
-- the cycles, how many are rejected, and a word: `rejected`, and some setting and some rejecting path condemn one of the
-- cycles, or `accepted`, and there are none such
pub record SumMeans (g : Graph) (cycles : List Bytes) (page : Bytes) : Type 0 where
  pub word : Bytes
  pub whole : page ≡ joined (cycle_line (verdicts g [] cycles)) (length cycles)
      ++ (bytes "sum" ++ (field (length cycles) ++ (field (count_rejected g cycles) ++ word)))
  pub told : ((word ≡ bytes "\trejected\n") × SomeRejected g [] cycles) ⊎ ((word ≡ bytes "\taccepted\n") × (SomeRejected g [] cycles → ⊥))

abbrev pub JudgementMeans : Bytes → Type 0
JudgementMeans input =
    (g : Graph) → length input ≤ 65536 → graph_of (graph_part input) ≡ accepted g → variables_of false g ≤ 4095
    → fault_of (inputs_of g) (trace_part input) ≡ 0
    → SumMeans g (cycles_of (inputs_of g) (trace_part input)) (monitor_text input)

-- ---- the programs that print AIGER, as text and in the binary format: their whole input is a graph text
unfoldable pub aiger_text : Bytes → Bytes
aiger_text input = graph_page (graph_of input) (λ g. file_of (numbers_of g))

unfoldable pub packed_text : Bytes → Bytes
packed_text input = graph_page (graph_of input) (λ g. packed_of (numbers_of g))

-- THE CLAIM on both pages, by the file that a netlist has in their form: of a graph with at most 4,095 variables it is the
-- file of its monitor's netlist without checked; of one with more the line of 11; of any other input the line of what its
-- graph text is refused with
pub record FilePage (file : List ℕ → Bytes) (input page : Bytes) : Type 0 where
  pub printed : (g : Graph) → graph_of input ≡ accepted g → variables_of false g ≤ 4095 → page ≡ file (numbers_with false g)
  pub large : (g : Graph) → graph_of input ≡ accepted g → 4095 < variables_of false g → page ≡ refused_line (record { number = 11; line = 0 })
  pub refusal : (cause : GraphCause) → graph_of input ≡ refused cause → page ≡ refused_line (graph.refusal_of cause)

-- ---- a page in a lent buffer, which keeps its surplus; refused with 12 where it is too short
pub record PageEnd : Type 0 where
  pub answer : Result ℕ Cause
  pub out : List ℕ

abbrev pub page_end : Result ℕ Cause → List ℕ → PageEnd
page_end r o = record { answer = r; out = o }

unfoldable pub page_of : Bytes → List ℕ → PageEnd
page_of page out =
    cond (leb (length page) (length out)) (page_end (Ok (length page)) (page ++ drop (length page) out))
    (page_end (Err ShortBuffer) out)
