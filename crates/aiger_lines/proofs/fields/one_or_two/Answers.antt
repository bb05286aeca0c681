-- `one_or_two` meets its contract. Assumes nothing.
use borrow.Author.Rules.{rules}
use Rattle.aiger_lines.proofs.LineLaws.{either-read}
use Rattle.aiger_lines.proofs.fields.one_or_two.Goals as goal

pub returns : goal.returns
returns c = either-read _ _ _ _ _ c.fields_at.ensures c.or_else.ensures (λ h. search rules) (λ l h. search rules)
