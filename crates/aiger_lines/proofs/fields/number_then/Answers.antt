-- `number_then` meets its contract. Assumes nothing.
use mathlib.Core.Path.{sym, ◌∙◌}
use native.Mathlib.Omega.{arith}
use borrow.Author.Tests.{eq-eqb, ne_eqb}
use Rattle.aiger_lines.specs.Fields.{on_number, number_then}
use Rattle.aiger_lines.proofs.LineLaws.{byte_inside}
use Rattle.aiger_lines.proofs.fields.number_then.Goals as goal

pub returns-in_err-value : goal.returns-in_err-value
unfolding number_then on_number
returns-in_err-value c = rw (c.from_residual.ensures, sym c.read_number.ensures.value ∙ c.in_err-value.was)

pub overflow_add-result : goal.overflow_add-result
overflow_add-result c =
    omega (arith, byte_inside c.args.s.now c.in_ok-value.end (omega (arith, c.byte_at.ensures, c.if-byte_at-after.true)))

pub returns-then-byte_at-after : goal.returns-then-byte_at-after
unfolding number_then on_number
returns-then-byte_at-after c =
    rw (sym c.read_number.ensures.value ∙ c.in_ok-value.was, eq-eqb _ _ (sym c.byte_at.ensures ∙ c.if-byte_at-after.true))

pub returns-else-byte_at-after : goal.returns-else-byte_at-after
unfolding number_then on_number
returns-else-byte_at-after c =
    rw (sym c.read_number.ensures.value ∙ c.in_ok-value.was, ne_eqb _ _ (λ e. c.if-byte_at-after.false (c.byte_at.ensures ∙ e)))
