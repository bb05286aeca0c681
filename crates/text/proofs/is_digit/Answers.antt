-- `text::is_digit` meets its contract. Assumes nothing.
use borrow.Author.Tests.{lt-leb, le-leb}
use Rattle.text.specs.Numbers.{is_digit}
use Rattle.text.proofs.is_digit.Goals as goal

pub returns-then-b-lt48 : goal.returns-then-b-lt48
unfolding is_digit
returns-then-b-lt48 c = rw (lt-leb 48 _ c.if-b-lt48.true)

pub returns : goal.returns
unfolding is_digit
returns c = rw (le-leb 48 _ c.if-b-lt48.false)
