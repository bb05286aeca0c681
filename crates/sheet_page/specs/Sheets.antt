-- The page of the sheet program: its input is a line with the graph name, and then the monitor program's input. A refusal
-- of what the page needs is the page's text. Assumes nothing.
use Rattle.std.specs.Prelude.{Bool, cond, not, ◌&&◌, [], suc, eqb, leb, ltb, length, take, drop}
use Rattle.text.specs.declared.Refusal.{Refusal}
use Rattle.text.specs.Lines.{to_lf}
use Rattle.assertion.specs.Graph.{Bytes, Graph}
use Rattle.assertion.specs.Paths.{verdicts}
use Rattle.graph.specs.Reading.{graph_of}
use Rattle.trace.specs.Traces.{fault_of, cycles_of}
use Rattle.calls.specs.Refusals as simulator
use Rattle.calls.specs.declared.refusal.Cause.TheVariants.{WrongLine}
use Rattle.judge.specs.Judge.{inputs_of}
use Rattle.page_text.specs.Parts.{graph_part, trace_part}
use Rattle.page_text.specs.Lines.{refused_line}
use Rattle.page.specs.Pages.{graph_page}
use Rattle.session_text.specs.Pages.{session_page}
use Rattle.session_page.specs.LayOut.{is_graph_name}
use Rattle.sheet_page.specs.declared.InputFault.{InputFault}
use Rattle.sheet_page.specs.declared.InputFault.TheVariants.{TooLong, NoGraphName}

-- the number and line of each fault of an input, whose refusal is the text of its page
unfoldable pub input_refusal : InputFault → Refusal
input_refusal TooLong = record { number = 1; line = 0 }
input_refusal NoGraphName = record { number = 22; line = 0 }

-- the first line without its LF, and what stands after it
abbrev pub first_line : Bytes → Bytes
first_line input = take (to_lf input) input

abbrev pub after_line : Bytes → Bytes
after_line input = drop (suc (to_lf input)) input

-- the first line has an LF and is a graph name
unfoldable pub has_name : Bytes → Bool
has_name input = ltb (to_lf input) (length input) && is_graph_name (first_line input)

-- the session page of the cycles that some setting and some rejecting path condemn; trace lines count from 1 after `T`
unfoldable pub trace_sheet : Bytes → Bytes → Graph → Bytes
trace_sheet name trace g =
    let fault = fault_of (inputs_of g) trace in
    cond (eqb fault 0) (session_page name (verdicts g [] (cycles_of (inputs_of g) trace))) (refused_line (simulator.refusal_of (WrongLine fault)))

unfoldable pub sheet_text : Bytes → Bytes
sheet_text input =
    cond (not (leb (length input) 65536)) (refused_line (input_refusal TooLong))
    (cond (not (has_name input)) (refused_line (input_refusal NoGraphName))
    (graph_page (graph_of (graph_part (after_line input))) (trace_sheet (first_line input) (trace_part (after_line input)))))
