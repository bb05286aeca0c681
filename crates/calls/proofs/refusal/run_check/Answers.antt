-- `calls::refusal::run_check` meets its contract. Assumes nothing.
use mathlib.Core.Path.{sym, ◌∙◌}
use borrow.Author.Tests.{le-leb, lt-leb, not-true, not-false}
use Rattle.calls.specs.Refusals.{is_short, run_check}
use Rattle.calls.proofs.refusal.run_check.Goals as goal

pub returns-then-trace-gt-MAX_TRACE : goal.returns-then-trace-gt-MAX_TRACE
unfolding run_check is_short
returns-then-trace-gt-MAX_TRACE c = rw (lt-leb _ _ c.if-trace-gt-MAX_TRACE.true)

pub returns-then-not-is_netlist : goal.returns-then-not-is_netlist
unfolding run_check is_short
returns-then-not-is_netlist c = rw (le-leb _ _ c.if-trace-gt-MAX_TRACE.false, sym c.is_netlist.ensures.value ∙ not-true _ c.if-not-is_netlist.true-raw)

pub lines_check-requires : goal.lines_check-requires
lines_check-requires c = record { net_value = sym c.is_netlist.ensures.value ∙ not-false _ c.if-not-is_netlist.false-raw; trace_len_bound = c.if-trace-gt-MAX_TRACE.false }
