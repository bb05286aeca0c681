-- `calls::refusal::start_check` meets its contract. Assumes nothing.
use mathlib.Core.Path.{sym, ◌∙◌}
use borrow.Author.Tests.{le-leb, lt-leb, not-true, not-false}
use Rattle.calls.specs.Refusals.{has_latches, start_check}
use Rattle.calls.proofs.refusal.start_check.Goals as goal

pub returns-then-not-is_netlist : goal.returns-then-not-is_netlist
unfolding start_check
returns-then-not-is_netlist c = rw (sym c.is_netlist.ensures.value ∙ not-true _ c.if-not-is_netlist.true-raw)

pub returns-then-latches-of : goal.returns-then-latches-of
unfolding start_check has_latches
returns-then-latches-of c = rw (sym c.is_netlist.ensures.value ∙ not-false _ c.if-not-is_netlist.false-raw, ← c.of.ensures.latches, lt-leb _ _ c.if-latches-of.true)

pub returns : goal.returns
unfolding start_check has_latches
returns c = rw (sym c.is_netlist.ensures.value ∙ not-false _ c.if-not-is_netlist.false-raw, ← c.of.ensures.latches, le-leb _ _ c.if-latches-of.false)
