-- `Cause::refusal` meets its contract. Assumes nothing.
use Rattle.judge.specs.Judge.{refusal_of}
use Rattle.judge.proofs.Cause.refusal.Goals as goal

pub returns-in-Graph : goal.returns-in-Graph
unfolding refusal_of
returns-in-Graph c = rw c.in-Graph.is c.refusal.ensures

pub returns-in-Trace : goal.returns-in-Trace
unfolding refusal_of
returns-in-Trace c = rw c.in-Trace.is c.refusal-in-Trace.ensures
