-- The cause of numbers that were not placed is as its definition says. Assumes nothing.
use Rattle.aiger_read.specs.Private.Steps.{cause_of}
use Rattle.aiger_read.proofs.CauseFromUnplaced.from.Goals as goal

pub returns-in-Waiting : goal.returns-in-Waiting
unfolding cause_of
returns-in-Waiting c = rw c.in-Waiting.is

pub returns-in-ShortBuffer : goal.returns-in-ShortBuffer
unfolding cause_of
returns-in-ShortBuffer c = rw c.in-ShortBuffer.is

pub returns-in-NotLoose : goal.returns-in-NotLoose
unfolding cause_of
returns-in-NotLoose c = rw c.in-NotLoose.is
