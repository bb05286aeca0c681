-- `with_more` meets its contract. Assumes nothing.
use native.Mathlib.Omega.{arith}
use Rattle.packed_read.proofs.ByteLaws.{more-took, more-broken, below-took}
use Rattle.packed_read.proofs.runs.with_more.Goals as goal

pub returns-in_err-value : goal.returns-in_err-value
returns-in_err-value c = rw c.from_residual.ensures (more-broken _ _ c.in_err-value.was)

pub overflow_mul-result : goal.overflow_mul-result
overflow_mul-result c = omega (arith, below-took c.requires.1 c.in_ok-value.was)

pub overflow_add-result : goal.overflow_add-result
overflow_add-result c = omega (arith, below-took c.requires.1 c.in_ok-value.was)

pub returns : goal.returns
returns c = more-took _ _ _ _ c.in_ok-value.was
