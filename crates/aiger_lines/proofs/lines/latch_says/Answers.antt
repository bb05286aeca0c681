-- `latch_says` meets its contract. Assumes nothing.
use native.Mathlib.Omega.{arith}
use Rattle.aiger_lines.specs.Private.Steps.{numbers_in, row_in}
use Rattle.aiger_lines.proofs.LimitLaws.{says_past, says_plain, says_other, says-full, says-own}
use Rattle.aiger_lines.proofs.lines.latch_says.Goals as goal

pub returns-then-next-last : goal.returns-then-next-last
unfolding row_in
returns-then-next-last c = says_past _ _ _ _ _ _ c.if-next-last.true

pub returns-then-reset-le1 : goal.returns-then-reset-le1
unfolding row_in numbers_in
returns-then-reset-le1 c = says_plain _ _ _ _ _ _ c.if-next-last.false c.if-reset-le1.true

pub returns-then-reset-lit : goal.returns-then-reset-lit
unfolding row_in
returns-then-reset-lit c =
    says_other _ _ _ _ _ _ c.if-next-last.false c.if-reset-le1.false c.if-reset-lit.true

pub returns-then-free-ge-MAX_FREE : goal.returns-then-free-ge-MAX_FREE
unfolding row_in
returns-then-free-ge-MAX_FREE c =
    says-full _ _ _ _ _ _ c.if-next-last.false c.if-reset-le1.false (omega arith)

pub returns : goal.returns
unfolding row_in numbers_in
returns c =
    says-own _ _ _ _ _ _ c.if-next-last.false c.if-reset-le1.false c.if-reset-lit.false (omega arith)
