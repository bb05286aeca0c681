-- `store_netlist` meets its contract. Assumes nothing.
use mathlib.Core.Path.{◌≡◌}
use Prim.Native.Nat.{◌+◌, ◌*◌}
use native.Mathlib.Omega.{arith}
use Rattle.netlist.specs.Layout.{size_of}
use Rattle.gate_order.proofs.LooseLaws.{loose_outline}
use Rattle.aiger_order.proofs.StoreLaws.{numbered, stored}
use Rattle.aiger_order.proofs.PlaceLaws.{short, fits}
use Rattle.aiger_order.proofs.stores.store_netlist.Goals as goal

pub gates_of-gates-requires : goal.gates_of-gates-requires
gates_of-gates-requires c = loose_outline _ c.requires.0

pub returns-then-net-size : goal.returns-then-net-size
returns-then-net-size c = let size_is' : c.gates_of-gates.result.at + 2 * c.gates_of-gates.result.count ≡ size_of c.args.loose.now = let g = c.gates_of-gates.ensures in omega arith in short _ _ _ (size_is') c.if-net-size.true

pub store_front-requires : goal.store_front-requires
store_front-requires c =
    (c.requires.0, numbered _ _ _ c.requires.0 c.requires.1)

pub store_outputs-requires : goal.store_outputs-requires
store_outputs-requires c =
    (c.requires.0, numbered _ _ _ c.requires.0 c.requires.1)

pub returns : goal.returns
returns c =
    let size_is' : c.gates_of-gates.result.at + 2 * c.gates_of-gates.result.count ≡ size_of c.args.loose.now = let g = c.gates_of-gates.ensures in omega arith in let size = size_is' in
    let h = rw c.gates_of-gates.ensures.at at c.store_gates.ensures in
    fits _ _ _ size c.if-net-size.false (stored _ _ _ c.requires.0 c.requires.1 _ c.store_front.ensures c.store_outputs.ensures h (omega (arith, c.if-net-size.false)))
