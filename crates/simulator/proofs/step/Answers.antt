-- `simulator::step` meets its contract. Assumes nothing.
use Rattle.trace.proofs.TraceLaws.{cycle-length}
use Rattle.calls.proofs.RefusalLaws.{step_passed}
use Rattle.simulator.proofs.StepLaws.{step_refused, step_done, step_means, step_counts}
use Rattle.simulator.proofs.step.Goals as goal

pub advance-words-requires : goal.advance-words-requires
advance-words-requires c =
    let r = step_passed _ _ _ _ _ _ c.step_check-tested.ensures c.in-Ok.is in
    record { net_value = r.netlist; cycle_len = cycle-length _ _ r.bits; net_in_bounds = r.latches; net_in_bounds_2 = r.values }

pub tallied-requires : goal.tallied-requires
tallied-requires c = (step_passed _ _ _ _ _ _ c.step_check-tested.ensures c.in-Ok.is).room

pub returns-in-Err : goal.returns-in-Err
returns-in-Err c =
    let e = step_refused c.args.net.now c.args.cycle.now c.args.latches.now c.args.values.now c.args.tally _ _ c.step_check-tested.ensures c.in-Err.is in
    record { values_after = e; aiger = step_means _ _ _ _ _; counts = step_counts _ _ _ _ _ _ e }

pub returns-in-Ok : goal.returns-in-Ok
returns-in-Ok c =
    let a = c.advance-words in
    let e = step_done c.args.net.now c.args.cycle.now c.args.latches.now c.args.values.now c.args.tally _ c.step_check-tested.ensures c.in-Ok.is
    a.result.accept a.result.checked _ _ c.tallied.result a.ensures.0 a.ensures.1 a.ensures.2 a.ensures.3 c.tallied.ensures in
    record { values_after = e; aiger = step_means _ _ _ _ _; counts = step_counts _ _ _ _ _ _ e }
