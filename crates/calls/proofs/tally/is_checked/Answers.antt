-- `calls::tally::is_checked` meets its contract. Assumes nothing.
use mathlib.Core.Path.{sym}
use Rattle.calls.proofs.TallyLaws.{checked_word_lem}
use Rattle.calls.proofs.tally.is_checked.Goals as goal

pub returns : goal.returns
returns c = sym (checked_word_lem c.args.word c.ranges.word.fits)
