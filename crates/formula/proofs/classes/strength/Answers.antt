-- `strength` meets its contract: each arm's byte is a case of `strength_of`. Assumes nothing.
use borrow.Author.Tests.{ne_eqb}
use mathlib.Core.Path.{ap, sym}
use Rattle.formula.specs.Classes.{strength_of}
use Rattle.formula.proofs.classes.strength.Goals as goal

pub returns-in-38 : goal.returns-in-38
unfolding strength_of
returns-in-38 c = sym (ap strength_of c.in-38.is)

pub returns-in-94 : goal.returns-in-94
unfolding strength_of
returns-in-94 c = sym (ap strength_of c.in-94.is)

pub returns-in-124 : goal.returns-in-124
unfolding strength_of
returns-in-124 c = sym (ap strength_of c.in-124.is)

pub returns-in-61 : goal.returns-in-61
unfolding strength_of
returns-in-61 c = sym (ap strength_of c.in-61.is)

pub returns-in_default : goal.returns-in_default
unfolding strength_of
returns-in_default c =
    let r = c.in_default.in_default-own.rest in
    simp (ne_eqb _ _ r.0.0.0.1, ne_eqb _ _ r.0.0.1, ne_eqb _ _ r.0.1, ne_eqb _ _ r.1)
