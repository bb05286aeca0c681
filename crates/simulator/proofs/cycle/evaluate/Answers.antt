-- `simulator::cycle::evaluate` meets its contract. Assumes nothing.
use mathlib.Core.Path.{◌≡◌}
use Prim.Native.Nat.{◌+◌}
use native.Mathlib.Omega.{arith}
use lib.ListN.{length}
use Rattle.netlist.proofs.ValidLaws.{valid}
use Rattle.simulator.proofs.CycleLaws.{evaluate_is}
use Rattle.simulator.proofs.cycle.evaluate.Goals as goal

pub load-requires : goal.load-requires
load-requires c =
    let v = valid c.args.net.now c.requires.net_value in
    record { count_in_bounds = omega (arith, c.requires, c.of-header.ensures.latches); count_in_bounds_2 = omega (arith, v.sum, c.requires, c.of-header.ensures.latches) }

pub gates-requires : goal.gates-requires
gates-requires c =
    let v = valid c.args.net.now c.requires.net_value in
    let l = c.of-header.ensures.latches in
    let a = c.of-header.ensures.gates in
    let k = c.load.auto.values in
    record { net_value = c.requires.net_value; at_value = omega (arith, c.operands_at.ensures, l, c.of-header.ensures.outputs); first_value = omega (arith, c.requires, l); count_value = a; count_in_bounds = omega (arith, v.sum, c.requires, k, l, a) }

pub returns : goal.returns
returns c =
    let h = c.of-header in
    let l = h.result.latches in
    let at = c.operands_at.result in
    let first : length c.args.cycle.now + l + 1 ≡ 1 + length c.args.cycle.now + l = omega arith in
    evaluate_is c.args.net.now c.args.cycle.now c.args.latches.now c.args.values.now l at _ h.result.gates h.ensures.latches (omega (arith, c.operands_at.ensures, h.ensures.latches, h.ensures.outputs)) first h.ensures.gates (valid _ c.requires.net_value) c.requires.cycle_len c.requires.net_in_bounds
    _ c.load.ensures _ c.gates.ensures
