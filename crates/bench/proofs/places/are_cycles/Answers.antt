-- `bench::places::are_cycles` meets its contract. Assumes nothing.
use mathlib.Core.Path.{sym, ◌∙◌}
use borrow.Author.Tests.{not-true, not-false}
use Rattle.bench.proofs.QueueLaws.{from_first, from_last, from_wrong, from-right}
use Rattle.bench.proofs.places.are_cycles.Goals as goal

pub loop-j-init : goal.loop-j-init
loop-j-init c = from_first _ _ _

pub returns-then-not-is_cycle : goal.returns-then-not-is_cycle
returns-then-not-is_cycle c =
    sym (from_wrong c.args.inputs c.loop-j.j c.args.n c.args.queue.now c.loop-j-test.true (sym c.is_cycle.ensures ∙ not-true _ c.if-not-is_cycle.true-raw)) ∙ c.loop-j.invariant

pub loop-j-preserved : goal.loop-j-preserved
loop-j-preserved c =
    sym (from-right c.args.inputs c.loop-j.j c.args.n c.args.queue.now c.loop-j-test.true (sym c.is_cycle.ensures ∙ not-false _ c.if-not-is_cycle.false-raw)) ∙ c.loop-j.invariant

pub returns : goal.returns
returns c =
    sym (from_last c.args.inputs c.loop-j.j c.args.n c.args.queue.now c.loop-j-test.false) ∙ c.loop-j.invariant
