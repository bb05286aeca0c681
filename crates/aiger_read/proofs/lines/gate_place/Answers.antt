-- `gate_place` meets its contract. Assumes nothing.
use Rattle.aiger_read.specs.Lines.{gate_place}
use borrow.Author.Rules.{rules}
use Rattle.aiger_read.proofs.lines.gate_place.Goals as goal

pub returns : goal.returns
unfolding gate_place
returns c = search rules
