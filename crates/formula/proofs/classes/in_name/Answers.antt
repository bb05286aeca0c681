-- `in_name` meets its contract. Assumes nothing.
use mathlib.Core.Path.{◌≡◌, refl, sym, ap, ◌∙◌}
use mathlib.Core.Logic.{⊎_elim}
use mathlib.Core.Bool.{false}
use Rattle.formula.specs.declared.Class.{Class}
use Rattle.formula.specs.declared.Class.TheVariants.{Other, Letter, Digit, Underscore, Operator, Opening, Closing, OpeningSquare, ClosingSquare, Tab, Lf}
use Rattle.formula.specs.Classes.{is_word_class}
use Rattle.formula.proofs.classes.in_name.Goals as goal

others : (x : Class) → (x ≡ Letter → ⊥) → (x ≡ Digit → ⊥) → (x ≡ Underscore → ⊥) → is_word_class x ≡ false
unfolding is_word_class
others Other l d u = refl
others Letter l d u = absurd (l refl)
others Digit l d u = absurd (d refl)
others Underscore l d u = absurd (u refl)
others Operator l d u = refl
others Opening l d u = refl
others Closing l d u = refl
others OpeningSquare l d u = refl
others ClosingSquare l d u = refl
others Tab l d u = refl
others Lf l d u = refl

pub returns-in-Letter : goal.returns-in-Letter
unfolding is_word_class
returns-in-Letter c =
    let e = c.class_of.ensures in
    ⊎_elim
    (λ l. sym (ap is_word_class (sym e ∙ l)))
    (λ r. ⊎_elim (λ d. sym (ap is_word_class (sym e ∙ d))) (λ u. sym (ap is_word_class (sym e ∙ u))) r)
    c.in-Letter.is

pub returns-in_default : goal.returns-in_default
returns-in_default c =
    let d = c.in_default in
    sym (ap is_word_class (sym c.class_of.ensures) ∙ others c.class_of.result d.not-Letter d.not-Digit d.not-Underscore)
