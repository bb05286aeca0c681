-- `graph::records::push_signal` meets its contract. Assumes nothing.
use Rattle.graph.proofs.records.push_signal.Goals as goal

pub returns : goal.returns
returns c = rw c.symbol_word.ensures
