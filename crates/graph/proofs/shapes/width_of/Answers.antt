-- `graph::shapes::width_of` meets its contract. Assumes nothing.
use mathlib.Core.Path.{sym, ◌∙◌}
use Rattle.graph.proofs.WidthFieldLaws.{width-none, width_read, width_over, width-part}
use Rattle.graph.proofs.shapes.width_of.Goals as goal

pub returns-in-Some : goal.returns-in-Some
returns-in-Some c =
    width_read _ _ _ (sym c.read_number.ensures.value ∙ c.in-Some.is) c.if-next-field.true c.if-value-le-WIDEST.true

pub returns-in_default : goal.returns-in_default
returns-in_default c = width_over _ _ _ (sym c.read_number.ensures.value ∙ c.in-Some.is) c.if-value-le-WIDEST.false

pub returns-in_default-2 : goal.returns-in_default-2
returns-in_default-2 c = width-part _ _ _ (sym c.read_number.ensures.value ∙ c.in-Some.is) c.if-next-field.false

pub returns-in_default-3 : goal.returns-in_default-3
returns-in_default-3 c = width-none _ (sym c.read_number.ensures.value ∙ c.in_default.is)
