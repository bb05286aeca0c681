-- `graph::records::push_constant` meets its contract. Assumes nothing.
use Rattle.graph.proofs.records.push_constant.Goals as goal

pub returns : goal.returns
returns c = rw c.symbol_word.ensures
