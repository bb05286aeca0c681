-- `first_broken::refusal::Cause::refusal` meets its contract. Assumes nothing.
use Rattle.first_broken.specs.Refusals.{refusal_of}
use Rattle.first_broken.proofs.refusal.Cause.refusal.Goals as goal

pub returns-in-TraceTooLong : goal.returns-in-TraceTooLong
unfolding refusal_of
returns-in-TraceTooLong c = rw c.in-TraceTooLong.is

pub returns-in-WrongWidth : goal.returns-in-WrongWidth
unfolding refusal_of
returns-in-WrongWidth c = rw c.in-WrongWidth.is

pub returns-in-FlywheelLine : goal.returns-in-FlywheelLine
unfolding refusal_of
returns-in-FlywheelLine c = rw c.in-FlywheelLine.is

pub returns-in-HandleLine : goal.returns-in-HandleLine
unfolding refusal_of
returns-in-HandleLine c = rw c.in-HandleLine.is

pub returns-in-WrongVerdicts : goal.returns-in-WrongVerdicts
unfolding refusal_of
returns-in-WrongVerdicts c = rw c.in-WrongVerdicts.is
