-- `session_page::Cause::refusal` meets its contract. Assumes nothing.
use Rattle.session_page.specs.LayOut.{refusal_of}
use Rattle.session_page.proofs.Cause.refusal.Goals as goal

pub returns-in-TooManyCycles : goal.returns-in-TooManyCycles
unfolding refusal_of
returns-in-TooManyCycles c = rw c.in-TooManyCycles.is

pub returns-in-ShortBuffer : goal.returns-in-ShortBuffer
unfolding refusal_of
returns-in-ShortBuffer c = rw c.in-ShortBuffer.is

pub returns-in-NotPrintable : goal.returns-in-NotPrintable
unfolding refusal_of
returns-in-NotPrintable c = rw c.in-NotPrintable.is
