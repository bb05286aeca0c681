-- `line_step` meets its contract. Assumes nothing.
use mathlib.Core.Path.{◌≡◌, refl}
use native.Mathlib.Omega.{arith}
use borrow.Author.Rules.{rules}
use Rattle.std.specs.Prelude.{Err}
use Rattle.aiger_lines.specs.Private.Steps.{line_rows, Took, Within}
use Rattle.aiger_lines.proofs.PassLaws.{row_good, line_failed, told_good, told_bad}
use Rattle.aiger_lines.proofs.blocks.line_step.Goals as goal

pub returns-in_err-given-clause-took : goal.returns-in_err-given-clause-took
returns-in_err-given-clause-took g c = λ x reads.
    let r : c.from_residual.result ≡ Err c.in_err-given.field-0.0 = search rules in
    let w = told_bad c.line_at.result (λ e. (e, c.args.line)) c.map_err.ensures.cases (λ g p. search rules) (λ e q. search rules) _ c.in_err-given.was in
    let t = reads c.line_at.result (omega arith) (omega arith) c.line_at.ensures in
    line_failed _ _ _ _ _ _ _ t r w

pub returns-in_err-given-clause-within : goal.returns-in_err-given-clause-within
unfolding Within
returns-in_err-given-clause-within g c =
    let r : c.from_residual.result ≡ Err c.in_err-given.field-0.0 = search rules in
    rw r tt

pub returns-clause-took : goal.returns-clause-took
unfolding line_rows Took
returns-clause-took g c = λ x reads.
    let w = told_good c.line_at.result (λ e. (e, c.args.line)) c.map_err.ensures.cases (λ g p. search rules) (λ e q. search rules) _ c.in_ok-given.was in
    let t = reads c.line_at.result (omega arith) (omega arith) c.line_at.ensures in
    rw (row_good _ _ _ t w, c.store_given-stored.ensures.1) (refl, c.store_given-stored.ensures.0)

pub returns-clause-within : goal.returns-clause-within
unfolding Within
returns-clause-within g c = omega (arith, c.store_given-stored.ensures.2)
