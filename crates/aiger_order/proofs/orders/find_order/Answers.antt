-- `find_order` meets its contract. Assumes nothing.
use Rattle.gate_order.proofs.LooseLaws.{loose_outline}
use Rattle.aiger_order.proofs.orders.find_order.Goals as goal

pub gates_of-gates-requires : goal.gates_of-gates-requires
gates_of-gates-requires c = loose_outline _ c.requires.0
