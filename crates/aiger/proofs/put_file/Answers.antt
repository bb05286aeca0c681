-- `put_file` meets its contract: the header, inputs, latches, and the rest, one after another. Assumes nothing.
use Rattle.text.proofs.WritingLaws.{then}
use Rattle.netlist.specs.Layout.{maximum, input_count, latch_count, output_count, gate_count}
use Rattle.aiger.specs.Rows.{header_row}
use Rattle.aiger.specs.Format.{file_with, file_of}
use Rattle.aiger.proofs.put_file.Goals as goal

pub returns : goal.returns
unfolding file_of file_with header_row
returns c =
    let net = c.args.net.now in
    let header = header_row (maximum net) (input_count net) (latch_count net) (output_count net) (gate_count net) in
    let h = c.of-header.ensures in
    then {s = header} (rw (h.maximum, h.inputs, h.latches, h.outputs, h.gates) at c.put_header.ensures)
    (then (rw h.inputs at c.put_inputs.ensures) (then (rw h.latches at c.put_latches.ensures) c.put_logic.ensures))
