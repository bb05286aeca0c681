-- `fields_at` meets its contract: after k numbers they stand first, and the others are still to come. Assumes nothing.
use mathlib.Core.Path.{refl, sym, ◌∙◌}
use Rattle.aiger_lines.proofs.LineLaws.{reading_start, reading_next, reading_stop, reading_none, reading_last, misshapen}
use Rattle.aiger_lines.proofs.fields.fields_at.Goals as goal

pub loop-k-init : goal.loop-k-init
loop-k-init c = reading_start _ _ _

pub returns-in_err-value : goal.returns-in_err-value
returns-in_err-value c = rw c.from_residual.ensures (misshapen _ (reading_stop _ _ _ c.loop-k.invariant c.loop-k-test.true (sym c.number_then.ensures ∙ c.in_err-value.was)))

pub loop-k-preserved : goal.loop-k-preserved
loop-k-preserved c =
    reading_next _ _ _ c.loop-k.invariant _ _ c.requires c.loop-k-test.true (sym c.number_then.ensures ∙ c.in_ok-value.was)

pub returns-in_err-value-2 : goal.returns-in_err-value-2
returns-in_err-value-2 c =
    rw c.from_residual-in_err-value-2.ensures (misshapen _ (reading_none _ _ _ c.loop-k.invariant c.loop-k-test.false (sym c.number_then-2.ensures ∙ c.in_err-value-2.was)))

pub returns : goal.returns
returns c =
    reading_last _ _ _ c.loop-k.invariant _ _ c.requires c.loop-k-test.false (sym c.number_then-2.ensures ∙ c.in_ok-value-2.was) _ refl refl
