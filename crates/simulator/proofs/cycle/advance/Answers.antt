-- `simulator::cycle::advance` meets its contract. Assumes nothing.
use native.Mathlib.Omega.{arith}
use Rattle.netlist.proofs.ValidLaws.{valid}
use Rattle.simulator.proofs.CycleLaws.{output-is, checked-is, latches-are}
use Rattle.simulator.proofs.cycle.advance.Goals as goal

pub latches_move-requires : goal.latches_move-requires
latches_move-requires c =
    let e = c.of.ensures.latches in
    record { net_value = c.requires.net_value; count_value = e; count_in_bounds = omega (arith, e, c.requires); net_in_bounds = omega (arith, c.requires, c.evaluate.auto.values) }

pub returns : goal.returns
returns c =
    let v = valid c.args.net.now c.requires.net_value in
    let e = c.evaluate in
    let m = c.latches_move in (
      output-is c.args.net.now c.args.cycle.now c.args.latches.now c.args.values.now v c.requires.cycle_len c.requires.net_in_bounds
          e.new.values e.ensures c.outputs.result.accept c.outputs.ensures.0,
      checked-is c.args.net.now c.args.cycle.now c.args.latches.now c.args.values.now v c.requires.cycle_len c.requires.net_in_bounds
          e.new.values e.ensures c.outputs.result.checked c.outputs.ensures.1,
      latches-are c.args.net.now c.args.cycle.now c.args.latches.now c.args.values.now v c.requires.cycle_len c.requires.net_in_bounds
          c.of.result.latches c.of.ensures.latches e.new.values e.ensures m.new.latches m.ensures,
      e.ensures,
    )
