-- `is_name` meets its contract: each return is a law of names. Assumes nothing.
use mathlib.Core.Path.{sym, ◌∙◌}
use native.Mathlib.Omega.{arith}
use borrow.Author.Tests.{not-true, not-false}
use Rattle.formula.proofs.NameLaws.{name-none, name_letter, name-long, name-rest}
use Rattle.formula.proofs.classes.is_name.Goals as goal

pub returns-then-s-eq0 : goal.returns-then-s-eq0
returns-then-s-eq0 c = sym (name-none c.args.s.now (omega arith))

pub returns-then-s-gt-LONGEST_NAME : goal.returns-then-s-gt-LONGEST_NAME
returns-then-s-gt-LONGEST_NAME c = sym (name-long c.args.s.now (omega arith))

pub returns-then-not-is_letter : goal.returns-then-not-is_letter
returns-then-not-is_letter c =
    sym (name_letter c.args.s.now (omega arith) (sym c.is_letter.ensures ∙ not-true _ c.if-not-is_letter.true-raw))

pub returns : goal.returns
returns c =
    sym
    (name-rest c.args.s.now _ (omega arith) (sym c.is_letter.ensures ∙ not-false _ c.if-not-is_letter.false-raw)
    (omega arith)
    c.name_end.ensures)
