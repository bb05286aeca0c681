-- `calls::refusal::lines_check` meets its contract. Assumes nothing.
use mathlib.Core.Path.{sym, ◌∙◌}
use native.Mathlib.Omega.{arith}
use borrow.Author.Tests.{eq-eqb, ne_eqb, le-leb, lt-leb, not-true, not-false}
use Rattle.trace.specs.Traces.{line_count}
use Rattle.calls.specs.Refusals.{is_short, run_check}
use Rattle.trace.proofs.TraceLaws.{fault-bound}
use Rattle.calls.proofs.RefusalLaws.{words-short, words_enough}
use Rattle.calls.proofs.refusal.lines_check.Goals as goal

pub overflow_cast-wrong : goal.overflow_cast-wrong
overflow_cast-wrong c =
    omega (arith, fault-bound c.of-n.result.inputs c.args.trace.now, c.fault-line.ensures.value, c.requires.trace_len_bound)

pub returns-then-line-ne0 : goal.returns-then-line-ne0
unfolding run_check is_short
returns-then-line-ne0 c =
    rw (le-leb _ _ c.requires.trace_len_bound, c.requires.net_value, ← c.of-n.ensures.inputs, ← c.fault-line.ensures.value, ne_eqb _ _ c.if-line-ne0.true)

pub returns-then-not-has_words : goal.returns-then-not-has_words
unfolding run_check is_short
returns-then-not-has_words c =
    rw (le-leb _ _ c.requires.trace_len_bound, c.requires.net_value, words-short _ _ _ (sym c.has_words.ensures ∙ not-true _ c.if-not-has_words.true-raw), ← c.of-n.ensures.inputs, ← c.fault-line.ensures.value, eq-eqb _ _ c.if-line-ne0.false)

pub returns-then-verdicts-lines : goal.returns-then-verdicts-lines
unfolding run_check is_short line_count
returns-then-verdicts-lines c =
    rw (le-leb _ _ c.requires.trace_len_bound, c.requires.net_value, words_enough _ _ _ (sym c.has_words.ensures ∙ not-false _ c.if-not-has_words.false-raw), ← c.of-n.ensures.inputs, ← c.fault-line.ensures.value, eq-eqb _ _ c.if-line-ne0.false, lt-leb _ _ c.if-verdicts-lines.true)

pub returns-then-not-has_room : goal.returns-then-not-has_room
unfolding run_check is_short line_count
returns-then-not-has_room c =
    rw (le-leb _ _ c.requires.trace_len_bound, c.requires.net_value, words_enough _ _ _ (sym c.has_words.ensures ∙ not-false _ c.if-not-has_words.false-raw), ← c.of-n.ensures.inputs, ← c.fault-line.ensures.value, eq-eqb _ _ c.if-line-ne0.false, le-leb _ _ c.if-verdicts-lines.false, sym c.has_room.ensures ∙ not-true _ c.if-not-has_room.true-raw)

pub returns : goal.returns
unfolding run_check is_short line_count
returns c =
    rw (le-leb _ _ c.requires.trace_len_bound, c.requires.net_value, words_enough _ _ _ (sym c.has_words.ensures ∙ not-false _ c.if-not-has_words.false-raw), ← c.of-n.ensures.inputs, ← c.fault-line.ensures.value, eq-eqb _ _ c.if-line-ne0.false, le-leb _ _ c.if-verdicts-lines.false, sym c.has_room.ensures ∙ not-false _ c.if-not-has_room.false-raw)
