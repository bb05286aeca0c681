-- The table of document 01's starred examples, and some more: what monitor, graph2aiger and graph2aig print of each, by
-- the definitions. Assumes nothing.
use mathlib.Core.Path.{◌≡◌, refl}
use mathlib.Core.List.{List, [], ◌∷◌, ◌++◌, map}
use Prim.Native.String.{String}
use Rattle.assertion.specs.Graph.{Bytes}
use Rattle.text.specs.Numbers as numbers
use Rattle.formula.specs.Classes as classes
use Rattle.formula.specs.Grammar as grammar
use Rattle.assertion.specs.Graph as graph
use Rattle.assertion.specs.Paths as paths
use Rattle.graph.specs.Pieces as pieces
use Rattle.graph.specs.Records as records
use Rattle.graph.specs.Reading as reading
use Rattle.netlist.specs.Literals as literals
use Rattle.circuit.specs.Gates as gates
use Rattle.circuit.specs.Build as monitor
use Rattle.circuit.specs.Numbers as circuit
use Rattle.builder.specs.Build as build
use Rattle.aiger.specs.Rows as rows
use Rattle.aiger.specs.Format as format
use Rattle.packed.specs.Runs as runs
use Rattle.packed.specs.Format as packed
use Rattle.trace.specs.Traces as traces
use Rattle.calls.specs.Refusals as calls
use Rattle.simulator.specs.Run as run
use Rattle.judge.specs.Judge as judge
use Rattle.page_text.specs.Parts as parts
use Rattle.page_text.specs.Lines as lines
use Rattle.page.specs.Pages as pages
use Rattle.page.specs.Pages.{monitor_text, aiger_text, packed_text}
use Rattle.text.specs.Quoted.{bytes}

-- an input and what is printed of it
record Row : Type 0 where
  input : Bytes
  page : Bytes

abbrev row : String → String → Row
row i p = record { input = bytes i; page = bytes p }

-- each row's page, by a program and as the table has it
record Printed : Type 0 where
  found : List Bytes
  due : List Bytes

abbrev printed : (Bytes → Bytes) → List Row → Printed
printed program rows = record { found = map (λ r. program r.input) rows; due = map (λ r. r.page) rows }

-- ---- the monitor program
abbrev monitor_rows : List Row
monitor_rows =
    -- graph G on 110, 111, 010: rejected since one cycle is, as document 02 has it in No. 2
    row "S\tp\nS\tq\nV\ta\nV\tb\nE\ta\tb\tt\tp\tq\nT\n110\n111\n010\n" "R\t1\nsum\t3\t1\trejected\n"
    -- G on 111, 010, on 110, and without a trace
    ∷ row "S\tp\nS\tq\nV\ta\nV\tb\nE\ta\tb\tt\tp\tq\nT\n111\n010\n" "sum\t2\t0\taccepted\n"
    ∷ row "S\tp\nS\tq\nV\ta\nV\tb\nE\ta\tb\tt\tp\tq\nT\n110\n" "R\t1\nsum\t1\t1\trejected\n"
    ∷ row "S\tp\nS\tq\nV\ta\nV\tb\nE\ta\tb\tt\tp\tq\n" "sum\t0\t0\taccepted\n"
    -- G with `E b b t p 1` on 110, 011, 001: 1 and 2 only
    ∷ row "S\tp\nS\tq\nV\ta\nV\tb\nE\ta\tb\tt\tp\tq\nE\tb\tb\tt\tp\t1\nT\n110\n011\n001\n" "R\t1\nR\t2\nsum\t3\t2\trejected\n"
    -- a constant, tried both ways: `k`/`p` on 10 and on 11
    ∷ row "S\tp\nK\tk\nV\ta\nE\ta\ta\tt\tk\tp\nT\n10\n" "R\t1\nsum\t1\t1\trejected\n"
    ∷ row "S\tp\nK\tk\nV\ta\nE\ta\ta\tt\tk\tp\nT\n11\n" "sum\t1\t0\taccepted\n"
    -- G without init
    ∷ row "S\tp\nS\tq\nV\ta\nV\tb\nE\ta\tb\tt\tp\tq\nT\n010\n" "sum\t1\t0\taccepted\n"
    -- as a consequent, `p|q&r` at 1,0,0 is 1, and `p=q=r` at 0,0,0 is 0
    ∷ row "S\tp\nS\tq\nS\tr\nV\ta\nE\ta\ta\tt\t1\tp|q&r\nT\n1100\n" "sum\t1\t0\taccepted\n"
    ∷ row "S\tp\nS\tq\nS\tr\nV\ta\nE\ta\ta\tt\t1\tp=q=r\nT\n1000\n" "R\t1\nsum\t1\t1\trejected\n"
    -- and `p=q` at 0,0 is 1, which tells `=` from `^`
    ∷ row "S\tp\nS\tq\nV\ta\nE\ta\ta\tt\t1\tp=q\nT\n100\n" "sum\t1\t0\taccepted\n"
    -- `p^q` at 1,1 is 0, and `!p&q` at 0,0 is 0
    ∷ row "S\tp\nS\tq\nV\ta\nE\ta\ta\tt\t1\tp^q\nT\n111\n" "R\t1\nsum\t1\t1\trejected\n"
    ∷ row "S\tp\nS\tq\nV\ta\nE\ta\ta\tt\t1\t!p&q\nT\n100\n" "R\t1\nsum\t1\t1\trejected\n"
    -- k must be a, and a cycle is rejected where bit 1 of it is 0
    ∷ row "S\ta\t2\nK\tk\t2\nV\tv\nE\tv\tv\tt\ta==k\tk[1]\nT\n100\n110\n101\n111\n" "R\t1\nR\t2\nsum\t4\t2\trejected\n"
    -- a wide name where one bit is due
    ∷ row "S\ta\t2\nV\tv\nE\tv\tv\tt\ta\t1\nT\n100\n" "refused\t19\t3\n"
    -- `10` is no formula
    ∷ row "V\ta\nE\ta\ta\tt\t10\t1\nT\n1\n" "refused\t7\t2\n"
    -- no trace, and one whose second line is wrong
    ∷ row "V\ta\n" "sum\t0\t0\taccepted\n"
    ∷ row "V\ta\nT\n1\n11\n" "refused\t15\t2\n"
    -- a line `T` that is the first: an empty graph, which has no vertex
    ∷ row "T\n1\n" "refused\t10\t0\n"
    ∷ []

-- ---- the program that prints AIGER text
abbrev aiger_rows : List Row
aiger_rows =
    -- G's file
    row "S\tp\nS\tq\nV\ta\nV\tb\nE\ta\tb\tt\tp\tq\n"
    "aag 12 3 2 1 7\n2\n4\n6\n8 18\n10 25\n24\n12 8 3\n14 10 3\n16 4 2\n18 16 6\n20 16 7\n22 4 0\n24 23 21\n"
    -- G with `E b b t p 1`: 17 gates
    ∷ row "S\tp\nS\tq\nV\ta\nV\tb\nE\ta\tb\tt\tp\tq\nE\tb\tb\tt\tp\t1\n"
    "aag 24 3 4 1 17\n2\n4\n6\n8 30\n10 37\n12 40\n14 47\n48\n16 8 3\n18 10 3\n20 12 3\n22 14 3\n24 21 17\n26 23 19\n28 4 2\n30 28 6\n32 28 7\n34 4 0\n36 35 33\n38 25 4\n40 38 1\n42 38 0\n44 27 4\n46 45 43\n48 46 36\n"
    -- `=`, `|`, `^`, `!` and a constant
    ∷ row "S\tp\nK\tk\nV\ta\nE\ta\ta\tt\tp=k|!p\t0^1\n"
    "aag 20 2 3 1 15\n2\n4\n6 6 6\n8 34\n10 41\n40\n12 8 3\n14 10 3\n16 13 3\n18 7 4\n20 19 4\n22 18 5\n24 23 21\n26 1 0\n28 1 0\n30 29 27\n32 25 17\n34 32 30\n36 32 31\n38 25 14\n40 39 37\n"
    -- three wires compared: three gates for each, 26 to 42, then the two joins
    ∷ row "S\ta\t3\nS\tb\t3\nV\tv\nE\tv\tv\tt\ta==b\t1\n"
    "aag 28 7 2 1 19\n2\n4\n6\n8\n10\n12\n14\n16 50\n18 57\n56\n20 16 3\n22 18 3\n24 21 3\n26 10 4\n28 11 5\n30 29 27\n32 12 6\n34 13 7\n36 35 33\n38 14 8\n40 15 9\n42 41 39\n44 37 31\n46 44 43\n48 46 25\n50 48 1\n52 48 0\n54 46 22\n56 55 53\n"
    -- the bits of a constant
    ∷ row "K\tk\t2\nV\tv\nE\tv\tv\tt\tk[1]\tk[0]\n"
    "aag 13 1 4 1 8\n2\n4 4 4\n6 6 6\n8 20\n10 27\n26\n12 8 3\n14 10 3\n16 13 3\n18 17 6\n20 18 4\n22 18 5\n24 14 6\n26 25 23\n"
    -- G with `-` for `t`: with `M terminal` no edge is terminal, and the output is literal 1; without it the edge is, and
    -- the file is G's
    ∷ row "M\tterminal\nS\tp\nS\tq\nV\ta\nV\tb\nE\ta\tb\t-\tp\tq\n"
    "aag 12 3 2 1 7\n2\n4\n6\n8 18\n10 25\n1\n12 8 3\n14 10 3\n16 4 2\n18 16 6\n20 16 7\n22 4 0\n24 23 21\n"
    ∷ row "S\tp\nS\tq\nV\ta\nV\tb\nE\ta\tb\t-\tp\tq\n"
    "aag 12 3 2 1 7\n2\n4\n6\n8 18\n10 25\n24\n12 8 3\n14 10 3\n16 4 2\n18 16 6\n20 16 7\n22 4 0\n24 23 21\n"
    ∷ []

-- ---- the program that prints the binary format: lines, and the runs of the gates
abbrev packed_row : String → String → Bytes → Row
packed_row i l gates = record { input = bytes i; page = bytes l ++ gates }

abbrev packed_rows : List Row
packed_rows =
    -- G's file
    packed_row "S\tp\nS\tq\nV\ta\nV\tb\nE\ta\tb\tt\tp\tq\n" "aig 12 3 2 1 7\n18\n25\n24\n"
    (4 ∷ 5 ∷ 4 ∷ 7 ∷ 12 ∷ 2 ∷ 2 ∷ 10 ∷ 4 ∷ 9 ∷ 18 ∷ 4 ∷ 1 ∷ 2 ∷ [])
    -- the bits of a constant, with their resets
    ∷ packed_row "K\tk\t2\nV\tv\nE\tv\tv\tt\tk[1]\tk[0]\n" "aig 13 1 4 1 8\n4 4\n6 6\n20\n27\n26\n"
    (4 ∷ 5 ∷ 4 ∷ 7 ∷ 3 ∷ 10 ∷ 1 ∷ 11 ∷ 2 ∷ 14 ∷ 4 ∷ 13 ∷ 10 ∷ 8 ∷ 1 ∷ 2 ∷ [])
    -- a refusal is text
    ∷ row "V\ta\nE\ta\ta\tt\t10\t1\n" "refused\t7\t2\n"
    ∷ []

-- the programs print what the table says
tables_hold : ((printed monitor_text monitor_rows).found ≡ (printed monitor_text monitor_rows).due)
    × ((printed aiger_text aiger_rows).found ≡ (printed aiger_text aiger_rows).due)
    × ((printed packed_text packed_rows).found ≡ (printed packed_text packed_rows).due)
unfolding numbers.digits_of numbers.digits numbers.is_digit numbers.leading_digits numbers.value_from classes.class_of classes.strength_of classes.is_letter classes.is_word_class classes.start_of classes.run classes.name_bytes classes.is_name grammar.and_then grammar.is_index grammar.index_of grammar.right_of grammar.name_of grammar.closed grammar.whole grammar.tree_of grammar.depth_of grammar.operand_of grammar.expression_of grammar.rest_of graph.is_terminal graph.bits_of graph.signal_bits graph.constant_bits graph.input graph.is_init graph.bit_holds graph.alike_from graph.holds paths.rejects_along paths.rejected_under paths.is_rejected paths.count_rejected pieces.onto pieces.split pieces.same pieces.place_of pieces.look_up pieces.placed pieces.look_up_name records.moded records.number_to records.width_of records.sized records.named records.marked records.edged records.of_fields records.record_of reading.fault_number reading.refusal_of reading.known reading.fits reading.joined reading.symbol reading.run_of reading.resolved reading.judged_tree reading.tree_expr reading.lower reading.mode_lines reading.add_mode reading.add_signal reading.add_constant reading.add_vertex reading.edge_of reading.unless_faulty reading.judge_edge reading.add_edge reading.add reading.finished reading.read_lines reading.graph_of literals.literal_of literals.variable_of literals.is_inverted gates.inv gates.gate monitor.first_edge_latch monitor.first_gate monitor.bit_literal monitor.alike_of monitor.formula monitor.happy_or monitor.condemned_or monitor.edge_piece monitor.masked monitor.gathered monitor.judged monitor.accepted monitor.gates_of circuit.numbers_with build.refusal_of build.variables_of rows.line rows.header_row rows.literal_row rows.latch_row rows.gate_row format.input_line format.latch_line format.output_line format.gate_line format.file_with format.file_of runs.run_of runs.run packed.packed_header packed.packed_latch_row packed.gate_runs packed.packed_latch packed.packed_gate packed.packed_with packed.packed_of traces.is_bit traces.fits_line traces.fault_from traces.fault_of traces.line_count traces.cycles_from traces.cycles_of calls.refusal_of run.verdict_of parts.bytes_before parts.graph_part parts.trace_part lines.field lines.refused_line lines.rejected_line lines.verdict_field lines.sum_line lines.cycle_line lines.report pages.graph_page judge.inputs_of pages.judgement pages.trace_page pages.monitor_text pages.aiger_text pages.packed_text
tables_hold = (refl, refl, refl)
