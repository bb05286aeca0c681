-- `calls::refusal::has_words` meets its contract. Assumes nothing.
use native.Mathlib.Numerals.{add-one}
use borrow.Author.Tests.{le-leb, lt-leb}
use Rattle.calls.specs.Refusals.{has_latches, has_values}
use Rattle.calls.proofs.refusal.has_words.Goals as goal

pub returns-then-latches-header : goal.returns-then-latches-header
unfolding has_latches
returns-then-latches-header c = rw (← c.of-header.ensures.latches, lt-leb _ _ c.if-latches-header.true)

pub returns : goal.returns
unfolding has_latches has_values
returns c = rw (← c.of-header.ensures.latches, le-leb _ _ c.if-latches-header.false, ← c.of-header.ensures.maximum, add-one)
