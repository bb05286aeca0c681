-- `bytes_at` meets its contract; what is left falls. Assumes nothing.
use native.Mathlib.Omega.{arith}
use Rattle.packed_read.proofs.ByteLaws.{two-more, below_more, at_end, at_last, at_over, at_more}
use Prim.Native.Nat.{◌-◌}
use Rattle.packed_read.proofs.runs.+bytes_at.Goals as goal

pub returns-then-at-s : goal.returns-then-at-s
returns-then-at-s t c = at_end _ _ _ _ (omega arith)

pub returns-then-b-lt-MORE : goal.returns-then-b-lt-MORE
returns-then-b-lt-MORE t c =
    at_last _ _ _ _ (omega arith) _ c.byte_at-b.ensures _ c.if-b-lt-MORE.true c.last_byte.ensures.result_value
    (c.last_byte.ensures.below c.if-b-lt-MORE.true)

pub returns-then-left-eq0 : goal.returns-then-left-eq0
returns-then-left-eq0 t c = at_over _ _ _ _ (omega arith) _ c.byte_at-b.ensures c.if-b-lt-MORE.false c.if-left-eq0.true

pub with_more-requires : goal.with_more-requires
with_more-requires t c =
    (c.if-b-lt-MORE.false, below_more _ 16384 _ c.bytes_at-rest.ensures.1 (two-more (c.args.left - 1) (omega arith)))

pub returns : goal.returns
returns t c =
    at_more _ _ _ _ (omega arith) _ c.byte_at-b.ensures _ _ c.if-b-lt-MORE.false (omega arith) c.if-left-eq0.false
    c.with_more.ensures c.bytes_at-rest.ensures.0 c.bytes_at-rest.ensures.1
