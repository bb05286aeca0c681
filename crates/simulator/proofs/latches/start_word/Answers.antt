-- `simulator::latches::start_word` meets its contract. Assumes nothing.
use Prim.Native.Nat.{◌<◌}
use native.Mathlib.Omega.{arith}
use borrow.Author.Tests.{lt-leb}
use Rattle.simulator.proofs.StartLaws.{reset-low, reset_high}
use Rattle.simulator.proofs.latches.start_word.Goals as goal

pub returns-then-reset-eq0 : goal.returns-then-reset-eq0
returns-then-reset-eq0 c = rw c.if-reset-eq0.true reset-low

pub returns-then-reset-eq1 : goal.returns-then-reset-eq1
returns-then-reset-eq1 c = rw c.if-reset-eq1.true reset_high

pub returns : goal.returns
returns c =
    let r = c.args.reset in
    let l : 1 < r = omega (arith, c.if-reset-eq1.false, c.if-reset-eq0.false) in
    rw (lt-leb r 1 l) c.pattern.ensures
