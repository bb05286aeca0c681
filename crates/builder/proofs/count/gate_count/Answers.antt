-- `builder::count::gate_count` meets its contract. Assumes nothing.
use Rattle.builder.specs.Private.Machine.{gates_by}
use Rattle.builder.proofs.CountLaws.{counted}
use Rattle.builder.proofs.count.gate_count.Goals as goal

pub returns : goal.returns
unfolding gates_by
returns c =
    λ graph h w. rw (c.checked_gates.ensures.0, c.saturating_sub-ends.ensures, c.terminals-terminal.ensures.0, c.saturating_sub-all.ensures, c.entered-2.ensures, c.saturating_sub-later.ensures, c.entered.ensures, c.formulas_gates-formulas.ensures.0) (counted c.args.checked c.args.text.now graph h w)
