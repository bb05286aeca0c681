-- `last_byte` meets its contract. Assumes nothing.
use Rattle.packed_read.specs.Private.Steps.{run_in, Below}
use Rattle.packed_read.proofs.ByteLaws.{last-only, last_none, last_some}
use Rattle.packed_read.proofs.runs.last_byte.Goals as goal

pub returns-then-first : goal.returns-then-first
unfolding run_in Below
returns-then-first c = rw c.if-first.true (record { result_value = last-only _ _; below = λ h. h })

pub returns-then-b-eq0 : goal.returns-then-b-eq0
unfolding run_in Below
returns-then-b-eq0 c = rw c.if-first.false (record { result_value = last_none _ _ c.if-b-eq0.true; below = λ h. tt })

pub returns : goal.returns
unfolding run_in Below
returns c = rw c.if-first.false (record { result_value = last_some _ _ c.if-b-eq0.false; below = λ h. h })
