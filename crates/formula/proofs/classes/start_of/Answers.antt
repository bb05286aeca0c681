-- `start_of` meets its contract: each arm's byte is a case of `start_of`. Assumes nothing.
use borrow.Author.Tests.{ne_eqb}
use mathlib.Core.Path.{ap, sym, ◌∙◌}
use Rattle.formula.specs.Classes.{start_of}
use Rattle.formula.proofs.classes.start_of.Goals as goal

pub returns-in-33 : goal.returns-in-33
unfolding start_of
returns-in-33 c = sym (ap start_of c.in-33.is)

pub returns-in-40 : goal.returns-in-40
unfolding start_of
returns-in-40 c = sym (ap start_of c.in-40.is)

pub returns-in-48 : goal.returns-in-48
unfolding start_of
returns-in-48 c = sym (ap start_of c.in-48.is)

pub returns-in-49 : goal.returns-in-49
unfolding start_of
returns-in-49 c = sym (ap start_of c.in-49.is)

pub returns-then-is_letter : goal.returns-then-is_letter
unfolding start_of
returns-then-is_letter c =
    let r = c.in_default.in_default-own.rest in
    simp (
      ne_eqb _ _ r.0.0.0.1,
      ne_eqb _ _ r.0.0.1,
      ne_eqb _ _ r.0.1,
      ne_eqb _ _ r.1,
      sym c.is_letter.ensures ∙ c.if-is_letter.true,
    )

pub returns-else-is_letter : goal.returns-else-is_letter
unfolding start_of
returns-else-is_letter c =
    let r = c.in_default.in_default-own.rest in
    simp (
      ne_eqb _ _ r.0.0.0.1,
      ne_eqb _ _ r.0.0.1,
      ne_eqb _ _ r.0.1,
      ne_eqb _ _ r.1,
      sym c.is_letter.ensures ∙ c.if-is_letter.false,
    )
