-- `graph::records::symbol_word` meets its contract. Assumes nothing.
use mathlib.Core.Path.{refl}
use Rattle.graph.specs.Held.{symbol_word}
use Rattle.graph.proofs.records.symbol_word.Goals as goal

pub returns : goal.returns
unfolding symbol_word
returns c = refl
