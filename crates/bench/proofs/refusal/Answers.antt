-- `bench::refusal` meets its contract. Assumes nothing.
use Rattle.bench_turns.specs.Refusals.{refusal_of}
use Rattle.bench.proofs.refusal.Goals as goal

pub returns-in-NoMachine : goal.returns-in-NoMachine
unfolding refusal_of
returns-in-NoMachine c = rw c.in-NoMachine.is

pub returns-in-NotBench : goal.returns-in-NotBench
unfolding refusal_of
returns-in-NotBench c = rw c.in-NotBench.is

pub returns-in-FullQueue : goal.returns-in-FullQueue
unfolding refusal_of
returns-in-FullQueue c = rw c.in-FullQueue.is

pub returns-in-WrongCycle : goal.returns-in-WrongCycle
unfolding refusal_of
returns-in-WrongCycle c = rw c.in-WrongCycle.is

pub returns-in-ShortBuffer : goal.returns-in-ShortBuffer
unfolding refusal_of
returns-in-ShortBuffer c = rw c.in-ShortBuffer.is

pub returns-in-FullTally : goal.returns-in-FullTally
unfolding refusal_of
returns-in-FullTally c = rw c.in-FullTally.is
