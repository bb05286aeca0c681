-- `header_fits` meets its contract. Assumes nothing.
use mathlib.Core.Path.{sym}
use native.Mathlib.Omega.{arith}
use Rattle.aiger_lines.proofs.LimitLaws.{no_header, header-sum}
use Rattle.aiger_lines.proofs.lines.header_fits.Goals as goal

pub returns-then-m-gt-MAX_VARIABLES : goal.returns-then-m-gt-MAX_VARIABLES
returns-then-m-gt-MAX_VARIABLES c = sym (no_header _ _ _ _ _ (λ h. omega arith))

pub returns-then-i-gt-MAX_INPUTS : goal.returns-then-i-gt-MAX_INPUTS
returns-then-i-gt-MAX_INPUTS c = sym (no_header _ _ _ _ _ (λ h. omega arith))

pub returns-then-i-lt1 : goal.returns-then-i-lt1
returns-then-i-lt1 c = sym (no_header _ _ _ _ _ (λ h. omega arith))

pub returns-then-l-m : goal.returns-then-l-m
returns-then-l-m c = sym (no_header _ _ _ _ _ (λ h. omega arith))

pub returns-then-a-m : goal.returns-then-a-m
returns-then-a-m c = sym (no_header _ _ _ _ _ (λ h. omega arith))

pub returns-then-o-lt1 : goal.returns-then-o-lt1
returns-then-o-lt1 c = sym (no_header _ _ _ _ _ (λ h. omega arith))

pub returns-then-o-gt-MAX_OUTPUTS : goal.returns-then-o-gt-MAX_OUTPUTS
returns-then-o-gt-MAX_OUTPUTS c = sym (no_header _ _ _ _ _ (λ h. omega arith))

pub returns : goal.returns
returns c = sym (header-sum _ _ _ _ _ (omega arith) (omega arith) (omega arith) (omega arith) (omega arith))
