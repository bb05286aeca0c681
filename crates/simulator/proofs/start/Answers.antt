-- `simulator::start` meets its contract. Assumes nothing.
use native.Mathlib.Omega.{arith}
use Rattle.netlist.proofs.ValidLaws.{valid}
use Rattle.calls.proofs.RefusalLaws.{start-passed}
use Rattle.simulator.proofs.StartLaws.{start-refused, start-ready, start-means, start_computed}
use Rattle.simulator.proofs.start.Goals as goal

pub starts-requires : goal.starts-requires
starts-requires c =
    let r = start-passed _ _ _ c.start_check-tested.ensures c.in-Ok.is in
    let l = (valid _ r.netlist).long in
    record { count_in_bounds = omega (arith, c.of.ensures.latches); count_in_bounds_2 = omega (arith, r.latches, c.of.ensures.latches) }

pub returns-in-Err : goal.returns-in-Err
returns-in-Err c = record { latches_after = start-refused c.args.net.now c.args.latches.now c.args.tally _ _ c.start_check-tested.ensures c.in-Err.is; lanes = start-means _ _ _; computed = start_computed _ _ _ }

pub returns-in-Ok : goal.returns-in-Ok
returns-in-Ok c = record { latches_after = start-ready c.args.net.now c.args.latches.now c.args.tally _ c.start_check-tested.ensures c.in-Ok.is c.of.result.latches c.of.ensures.latches _ c.starts.ensures; lanes = start-means _ _ _; computed = start_computed _ _ _ }
