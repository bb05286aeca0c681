-- `is_letter` meets its contract. Assumes nothing.
use mathlib.Core.Path.{◌≡◌, refl, sym, ap, ◌∙◌}
use mathlib.Core.Bool.{false}
use Rattle.formula.specs.declared.Class.{Class}
use Rattle.formula.specs.declared.Class.TheVariants.{Other, Letter, Digit, Underscore, Operator, Opening, Closing, OpeningSquare, ClosingSquare, Tab, Lf}
use Rattle.formula.specs.Classes.{is_letter}
use Rattle.formula.proofs.classes.is_letter.Goals as goal

others : (x : Class) → (x ≡ Letter → ⊥) → is_letter x ≡ false
unfolding is_letter
others Other l = refl
others Letter l = absurd (l refl)
others Digit l = refl
others Underscore l = refl
others Operator l = refl
others Opening l = refl
others Closing l = refl
others OpeningSquare l = refl
others ClosingSquare l = refl
others Tab l = refl
others Lf l = refl

pub returns-in-Letter : goal.returns-in-Letter
unfolding is_letter
returns-in-Letter c = sym (ap is_letter (sym c.class_of.ensures ∙ c.in-Letter.is))

pub returns-in_default : goal.returns-in_default
returns-in_default c = sym (ap is_letter (sym c.class_of.ensures) ∙ others c.class_of.result c.in_default.not-Letter)
