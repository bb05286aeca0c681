-- `builder::count::edge_gates` meets its contract. Assumes nothing.
use native.Mathlib.Omega.{arith}
use Rattle.builder.proofs.count.edge_gates.Goals as goal

pub field_gates-left-requires : goal.field_gates-left-requires
field_gates-left-requires c = c.requires

pub field_gates-right-requires : goal.field_gates-right-requires
field_gates-right-requires c = c.requires

pub overflow_add-result : goal.overflow_add-result
overflow_add-result c = omega (arith, c.field_gates-left.ensures.1, c.field_gates-right.ensures.1)

pub returns : goal.returns
returns c =
    let l = c.field_gates-left.ensures in
    let r = c.field_gates-right.ensures in
    (omega (arith, l.0, r.0), omega (arith, l.1, r.1))
