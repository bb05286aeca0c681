-- `put_file` meets its contract: the header, latches, and the rest, one after another. Assumes nothing.
use Rattle.text.proofs.WritingLaws.{then}
use Rattle.netlist.specs.Layout.{maximum, input_count, latch_count, output_count, gate_count}
use Rattle.packed.specs.Format.{packed_header, packed_with, packed_of}
use Rattle.packed.proofs.put_file.Goals as goal

pub returns : goal.returns
unfolding packed_of packed_with packed_header
returns c =
    let net = c.args.net.now in
    let header = packed_header (maximum net) (input_count net) (latch_count net) (output_count net) (gate_count net) in
    let h = c.of-header.ensures in
    then {s = header} (rw (h.maximum, h.inputs, h.latches, h.outputs, h.gates) at c.put_header.ensures) (then (rw h.latches at c.put_latches.ensures) c.put_logic.ensures)
