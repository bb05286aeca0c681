-- `first_broken::places::is_rejected` meets its contract. Assumes nothing.
use borrow.Author.Rules.{rules}
use Rattle.first_broken.specs.Places.{is_rejected}
use Rattle.first_broken.proofs.places.is_rejected.Goals as goal

pub returns : goal.returns
unfolding is_rejected
returns c = search rules
