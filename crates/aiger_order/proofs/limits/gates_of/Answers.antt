-- `gates_of` meets its contract. Assumes nothing.
use native.Mathlib.Omega.{arith}
use Rattle.netlist.proofs.ValidLaws.{outline}
use Rattle.aiger_order.proofs.limits.gates_of.Goals as goal

pub overflow_add-result : goal.overflow_add-result
overflow_add-result c = let h = c.of-header.ensures in omega (arith, outline c.args.loose.now c.requires, h.inputs, h.latches)

pub overflow_add-result-2 : goal.overflow_add-result-2
overflow_add-result-2 c = let h = c.of-header.ensures in omega (arith, outline c.args.loose.now c.requires, h.inputs, h.latches)

pub returns : goal.returns
returns c =
    let o = outline c.args.loose.now c.requires in
    let h = c.of-header.ensures in
    record {
      first = omega (arith, h.inputs, h.latches);
      count = h.gates;
      at = omega (arith, c.operands_at.ensures, h.latches, h.outputs);
      long = o.long;
      small = omega (arith, o);
    }
