-- `calls::tally::is_rejected` meets its contract. Assumes nothing.
use mathlib.Core.Path.{sym}
use Rattle.calls.proofs.TallyLaws.{rejected-word}
use Rattle.calls.proofs.tally.is_rejected.Goals as goal

pub returns : goal.returns
returns c = sym (rejected-word c.args.word c.ranges.word.fits)
