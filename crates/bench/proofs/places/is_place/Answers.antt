-- `bench::places::is_place` meets its contract. Assumes nothing.
use mathlib.Core.Path.{sym, ◌∙◌}
use borrow.Author.Tests.{le-leb, lt-leb, not-true, not-false}
use Rattle.netlist.proofs.ValidLaws.{valid}
use Rattle.bench_turns.specs.Numbers.{is_place}
use Rattle.bench.proofs.places.is_place.Goals as goal

pub returns-then-not-is_netlist : goal.returns-then-not-is_netlist
unfolding is_place
returns-then-not-is_netlist c = rw (sym c.is_netlist.ensures.value ∙ not-true _ c.if-not-is_netlist.true-raw)

pub returns-then-n-gt-MAX_WAITING : goal.returns-then-n-gt-MAX_WAITING
unfolding is_place
returns-then-n-gt-MAX_WAITING c = rw (sym c.is_netlist.ensures.value ∙ not-false _ c.if-not-is_netlist.false-raw, lt-leb _ _ c.if-n-gt-MAX_WAITING.true)

pub returns-then-queue-n : goal.returns-then-queue-n
unfolding is_place
returns-then-queue-n c = rw (sym c.is_netlist.ensures.value ∙ not-false _ c.if-not-is_netlist.false-raw, le-leb _ _ c.if-n-gt-MAX_WAITING.false, lt-leb _ _ c.if-queue-n.true)

pub are_cycles-requires : goal.are_cycles-requires
are_cycles-requires c =
    let v = valid _ (sym c.is_netlist.ensures.value ∙ not-false _ c.if-not-is_netlist.false-raw) in
    (rw c.of.ensures.inputs v.few, c.if-queue-n.false)

pub returns : goal.returns
unfolding is_place
returns c = rw (sym c.is_netlist.ensures.value ∙ not-false _ c.if-not-is_netlist.false-raw, le-leb _ _ c.if-n-gt-MAX_WAITING.false, le-leb _ _ c.if-queue-n.false, ← c.of.ensures.inputs) c.are_cycles.ensures
