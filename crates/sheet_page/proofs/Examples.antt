-- What is printed of some inputs, by the definitions, with every byte of the pages written out. Assumes nothing.
use mathlib.Core.Path.{◌≡◌, refl}
use mathlib.Core.List.{List, [], ◌∷◌, ◌++◌, map}
use Prim.Native.String.{String}
use Rattle.text.specs.Quoted.{bytes}
use Rattle.text.specs.Lines as newline
use Rattle.text.specs.Numbers as numbers
use Rattle.formula.specs.Classes as classes
use Rattle.formula.specs.Grammar as grammar
use Rattle.assertion.specs.Graph.{Bytes}
use Rattle.assertion.specs.Graph as graph
use Rattle.assertion.specs.Paths as paths
use Rattle.graph.specs.Pieces as pieces
use Rattle.graph.specs.Records as records
use Rattle.graph.specs.Reading as reading
use Rattle.netlist.specs.Literals as literals
use Rattle.circuit.specs.Gates as gates
use Rattle.circuit.specs.Build as monitor
use Rattle.builder.specs.Build as build
use Rattle.trace.specs.Traces as traces
use Rattle.calls.specs.Refusals as calls
use Rattle.rate.specs.Rates as rates
use Rattle.judge.specs.Judge as judge
use Rattle.page_text.specs.Parts as parts
use Rattle.page_text.specs.Lines as lines
use Rattle.page.specs.Pages as pages
use Rattle.session_text.specs.Fields as fields
use Rattle.session_text.specs.Pages as session
use Rattle.session_page.specs.LayOut as names
use Rattle.sheet_page.specs.Sheets as sheets
use Rattle.sheet_page.specs.Sheets.{sheet_text}

-- an input and the lines that are printed of it
record Row : Type 0 where
  input : Bytes
  page : Bytes

abbrev together : List String → Bytes
together [] = []
together (l ∷ ls) = bytes l ++ together ls

abbrev row : String → List String → Row
row i ls = record { input = bytes i; page = together ls }

abbrev rows : List Row
rows =
    -- graph G on 110, 111, 010
    row "G\nS\tp\nS\tq\nV\ta\nV\tb\nE\ta\tb\tt\tp\tq\nT\n110\n111\n010\n"
    ("G                                3                                              \n"
    ∷ "       1                                                                        \n"
    ∷ "         1 333333         1                                                     \n"
    ∷ [])
    -- no `T`: no cycle
    ∷ row "G\nS\tp\nS\tq\nV\ta\nV\tb\nE\ta\tb\tt\tp\tq\n"
    ("G                                0                                              \n"
    ∷ "         0                                                                      \n"
    ∷ [])
    -- none of two is rejected; a name of 24 bytes that begins with a digit
    ∷ row "7_nameABCDEFGHIJKLMNOPQR\nS\tp\nS\tq\nV\ta\nV\tb\nE\ta\tb\tt\tp\tq\nT\n111\n010\n"
    ("7_nameABCDEFGHIJKLMNOPQR         2                                              \n"
    ∷ "         0      0         0                                                     \n"
    ∷ [])
    -- all of eleven: ten a line
    ∷ row "x\nV\ta\nE\ta\ta\tt\t1\t0\nT\n1\n1\n1\n1\n1\n1\n1\n1\n1\n1\n1\n"
    ("x                               11                                              \n"
    ∷ "       1       2       3       4       5       6       7       8       9      10\n"
    ∷ "      11                                                                        \n"
    ∷ "        111000000         0                                                     \n"
    ∷ [])
    -- no first line: nothing at all, and a name without its LF
    ∷ row "" ("refused\t22\t0\n" ∷ [])
    ∷ row "G" ("refused\t22\t0\n" ∷ [])
    -- an empty first line, a name with a blank, and one of 25 bytes
    ∷ row "\nV\ta\n" ("refused\t22\t0\n" ∷ [])
    ∷ row "a b\nV\ta\n" ("refused\t22\t0\n" ∷ [])
    ∷ row "7_nameABCDEFGHIJKLMNOPQRS\nV\ta\n" ("refused\t22\t0\n" ∷ [])
    -- the monitor's input without its name: its first line has a tab, and is judged before its graph, which is refused too
    ∷ row "V\ta\nE\ta\ta\tt\t10\t1\n" ("refused\t22\t0\n" ∷ [])
    -- the graph's line 2 is refused, and the trace's: lines count after the name
    ∷ row "G\nV\ta\nE\ta\ta\tt\t10\t1\nT\n1\n" ("refused\t7\t2\n" ∷ [])
    ∷ row "G\nV\ta\nT\n1\n11\n" ("refused\t15\t2\n" ∷ [])
    -- a name alone: no vertex
    ∷ row "G\n" ("refused\t10\t0\n" ∷ [])
    -- a line `T` after the name: an empty graph, not one with a line `T`
    ∷ row "G\nT\n1\n" ("refused\t10\t0\n" ∷ [])
    ∷ []

-- each page, by the program and as it is due
record Printed : Type 0 where
  found : List Bytes
  due : List Bytes

abbrev printed : Printed
printed = record { found = map (λ r. sheet_text r.input) rows; due = map (λ r. r.page) rows }

rows_hold : printed.found ≡ printed.due
unfolding numbers.digits_of numbers.digits numbers.is_digit numbers.leading_digits numbers.value_from classes.class_of classes.strength_of classes.is_letter classes.is_word_class classes.start_of classes.run classes.name_bytes classes.is_name grammar.and_then grammar.is_index grammar.index_of grammar.right_of grammar.name_of grammar.closed grammar.whole grammar.tree_of grammar.depth_of grammar.operand_of grammar.expression_of grammar.rest_of graph.is_terminal graph.bits_of graph.signal_bits graph.constant_bits graph.input graph.is_init graph.bit_holds graph.alike_from graph.holds paths.rejects_along paths.rejected_under paths.is_rejected pieces.onto pieces.split pieces.same pieces.place_of pieces.look_up pieces.placed pieces.look_up_name records.moded records.number_to records.width_of records.sized records.named records.marked records.edged records.of_fields records.record_of reading.fault_number reading.refusal_of reading.known reading.fits reading.joined reading.symbol reading.run_of reading.resolved reading.judged_tree reading.tree_expr reading.lower reading.mode_lines reading.add_mode reading.add_signal reading.add_constant reading.add_vertex reading.edge_of reading.unless_faulty reading.judge_edge reading.add_edge reading.add reading.finished reading.read_lines reading.graph_of literals.literal_of literals.variable_of literals.is_inverted gates.inv gates.gate monitor.first_edge_latch monitor.first_gate monitor.bit_literal monitor.alike_of monitor.formula monitor.happy_or monitor.condemned_or monitor.edge_piece monitor.masked monitor.gathered monitor.judged monitor.accepted monitor.gates_of build.refusal_of build.variables_of traces.is_bit traces.fits_line traces.fault_from traces.fault_of traces.line_count traces.cycles_from traces.cycles_of calls.refusal_of parts.bytes_before parts.graph_part parts.trace_part lines.field lines.refused_line pages.graph_page judge.inputs_of rates.has_no_rate rates.per_million rates.rate_of fields.left fields.right fields.row session.rejected_from session.title session.cell session.cell_line session.cell_lines session.rate_fields session.last_line session.session_page names.is_graph_name newline.to_lf sheets.input_refusal sheets.has_name sheets.trace_sheet sheets.sheet_text
rows_hold = refl
