-- `read` meets its contract: each return is a case of `Answers`, and the grammar means what it claims.
-- Assumes nothing.
use mathlib.Core.Path.{refl, ◌∙◌}
use native.Mathlib.Omega.{arith}
use Rattle.formula.proofs.Answers as answers
use Rattle.formula.proofs.GrammarComplete.{grammar_means}
use Rattle.formula.proofs.read.Goals as goal

pub returns-then-s-gt-LONGEST_FORMULA : goal.returns-then-s-gt-LONGEST_FORMULA
returns-then-s-gt-LONGEST_FORMULA c = record { value = answers.long c.args.s.now (omega arith); grammar = grammar_means _ }

pub returns-in_err-r : goal.returns-in_err-r
returns-in_err-r c =
    let s = c.args.s.now in
    record { value = c.from_residual.ensures ∙ answers.not-read s _ c.expression.new.out refl (omega arith) c.in_err-r.ensures.by_index; grammar = grammar_means s }

pub returns-then-r-s : goal.returns-then-r-s
returns-then-r-s c =
    let s = c.args.s.now in
    record { value = answers.left_over s _ c.expression.new.out refl (omega arith) c.in_ok-r.r c.in_ok-r.ensures.by_index (omega arith); grammar = grammar_means s }

pub returns : goal.returns
returns c =
    let s = c.args.s.now in
    let b = c.in_ok-r.ensures.bounds in
    record { value = answers.all_read s _ c.expression.new.out refl (omega arith) c.in_ok-r.r c.in_ok-r.ensures.by_index (omega (arith, b)) (omega (arith, b)); grammar = grammar_means s }
