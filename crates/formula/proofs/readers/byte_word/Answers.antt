-- `byte_word` meets its contract. Assumes nothing.
use mathlib.Core.Path.{refl}
use Rattle.formula.specs.Reading.{byte_word}
use Rattle.formula.proofs.readers.byte_word.Goals as goal

pub returns : goal.returns
unfolding byte_word
returns c = refl
