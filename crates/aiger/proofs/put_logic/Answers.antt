-- `put_logic` meets its contract. Assumes nothing.
use mathlib.Core.Path.{◌≡◌}
use Prim.Native.Nat.{◌+◌, ◌*◌, ◌≤◌}
use native.Mathlib.Omega.{arith}
use lib.ListN.{length}
use Rattle.text.proofs.WritingLaws.{then}
use Rattle.netlist.specs.Layout.{latch_count, output_count}
use Rattle.aiger.proofs.RowLaws.{outputs-written}
use Rattle.aiger.proofs.put_logic.Goals as goal

pub returns : goal.returns
returns c =
    let net = c.args.net.now in
    let h = c.of-header.ensures in
    let start : c.output_at.result ≡ 5 + 2 * latch_count net = omega (arith, c.output_at.ensures, h.latches) in
    let end : c.operands_at-operands.result ≡ c.output_at.result + output_count net = omega (arith, start, c.operands_at-operands.ensures, h.latches, h.outputs) in
    then (outputs-written net _ _ start end (omega (arith, end, start)) c.put_literals.ensures) (rw h.gates at c.put_gates.ensures)
