-- `calls::refusal::step_check` meets its contract. Assumes nothing.
use mathlib.Core.Path.{sym, ◌∙◌}
use borrow.Author.Tests.{not-true, not-false}
use Rattle.calls.specs.Refusals.{step_check}
use Rattle.calls.proofs.refusal.step_check.Goals as goal

pub returns-then-not-is_netlist : goal.returns-then-not-is_netlist
unfolding step_check
returns-then-not-is_netlist c = rw (sym c.is_netlist.ensures.value ∙ not-true _ c.if-not-is_netlist.true-raw)

pub returns-then-not-is_cycle : goal.returns-then-not-is_cycle
unfolding step_check
returns-then-not-is_cycle c = rw (sym c.is_netlist.ensures.value ∙ not-false _ c.if-not-is_netlist.false-raw, ← c.of-header.ensures.inputs, sym c.is_cycle.ensures ∙ not-true _ c.if-not-is_cycle.true-raw)

pub has_words-requires : goal.has_words-requires
has_words-requires c = sym c.is_netlist.ensures.value ∙ not-false _ c.if-not-is_netlist.false-raw

pub returns-then-not-has_words : goal.returns-then-not-has_words
unfolding step_check
returns-then-not-has_words c =
    rw (
      sym c.is_netlist.ensures.value ∙ not-false _ c.if-not-is_netlist.false-raw,
      ← c.of-header.ensures.inputs,
      sym c.is_cycle.ensures ∙ not-false _ c.if-not-is_cycle.false-raw,
      sym c.has_words.ensures ∙ not-true _ c.if-not-has_words.true-raw,
    )

pub returns-then-not-has_room : goal.returns-then-not-has_room
unfolding step_check
returns-then-not-has_room c =
    rw (
      sym c.is_netlist.ensures.value ∙ not-false _ c.if-not-is_netlist.false-raw,
      ← c.of-header.ensures.inputs,
      sym c.is_cycle.ensures ∙ not-false _ c.if-not-is_cycle.false-raw,
      sym c.has_words.ensures ∙ not-false _ c.if-not-has_words.false-raw,
      sym c.has_room.ensures ∙ not-true _ c.if-not-has_room.true-raw,
    )

pub returns : goal.returns
unfolding step_check
returns c =
    rw (
      sym c.is_netlist.ensures.value ∙ not-false _ c.if-not-is_netlist.false-raw,
      ← c.of-header.ensures.inputs,
      sym c.is_cycle.ensures ∙ not-false _ c.if-not-is_cycle.false-raw,
      sym c.has_words.ensures ∙ not-false _ c.if-not-has_words.false-raw,
      sym c.has_room.ensures ∙ not-false _ c.if-not-has_room.false-raw,
    )
