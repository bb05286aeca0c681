-- `simulator::latches::pattern` meets its contract. Assumes nothing.
use native.Mathlib.Omega.{arith}
use borrow.Author.Rules.{rules}
use Rattle.simulator.proofs.StartLaws.{free_word_lem, row-most, row_shift, power_most, power_shift, past_word}
use Rattle.simulator.proofs.latches.pattern.Goals as goal

pub returns-then-j-ge6 : goal.returns-then-j-ge6
returns-then-j-ge6 c = past_word _ c.if-j-ge6.true

pub overflow_shl-divisor : goal.overflow_shl-divisor
overflow_shl-divisor c =
    let j = c.args.j in
    let h = c.if-j-ge6.false in
    rw (row_shift j h) (omega (arith, row-most j h))

pub overflow_add-divisor : goal.overflow_add-divisor
overflow_add-divisor c =
    let j = c.args.j in
    let h = c.if-j-ge6.false in
    rw (row_shift j h, power_shift j h) (search (rules, power_most j h))

pub returns : goal.returns
returns c =
    let j = c.args.j in
    let h = c.if-j-ge6.false in
    rw (row_shift j h, power_shift j h) (free_word_lem j h)
