-- `Cause::refusal` meets its contract. Assumes nothing.
use Rattle.builder.specs.Build.{refusal_of}
use Rattle.builder.proofs.Cause.refusal.Goals as goal

pub returns-in-GraphText : goal.returns-in-GraphText
unfolding refusal_of
returns-in-GraphText c = rw c.in-GraphText.is c.refusal.ensures

pub returns-in-TooManyVariables : goal.returns-in-TooManyVariables
unfolding refusal_of
returns-in-TooManyVariables c = rw c.in-TooManyVariables.is

pub returns-in-ShortBuffer : goal.returns-in-ShortBuffer
unfolding refusal_of
returns-in-ShortBuffer c = rw c.in-ShortBuffer.is
