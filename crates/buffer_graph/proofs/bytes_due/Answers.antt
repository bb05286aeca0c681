-- `bytes_due` meets its contract: by whether the last count has one digit or two. Assumes nothing.
use native.Mathlib.Omega.{arith}
use borrow.Author.Rules.{rules}
use Rattle.buffer_text.proofs.SizeLaws.{size_small, size-large}
use Rattle.buffer_graph.proofs.bytes_due.Goals as goal

pub returns-then-k-lt10 : goal.returns-then-k-lt10
returns-then-k-lt10 c =
    omega (arith, size_small c.args.k c.requires.0 c.if-k-lt10.true)

pub returns-else-k-lt10 : goal.returns-else-k-lt10
returns-else-k-lt10 c =
    omega (arith, size-large c.args.k c.if-k-lt10.false c.requires.1)
