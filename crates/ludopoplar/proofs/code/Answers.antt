-- `code` meets its contract: number and line are small enough that the code is their plain sum. Assumes nothing.
use mathlib.Core.Path.{refl}
use Rattle.ludopoplar.specs.Codes.{code_of}
use Rattle.ludopoplar.proofs.code.Goals as goal

pub returns : goal.returns
unfolding code_of
returns c = refl
