-- `graph::records::add_signal` meets its contract. Assumes nothing.
use Rattle.graph.proofs.ArrayLaws.{signal_late, signal_many, signal_again, signal_new}
use mathlib.Core.Path.{sym, ◌∙◌}
use native.Mathlib.Omega.{arith}
use Rattle.graph.proofs.records.add_signal.Goals as goal

pub returns-then-g-gt0 : goal.returns-then-g-gt0
returns-then-g-gt0 c =
    λ graph h q i. signal_late c.args.text.now c.args.g.now graph h _ _ (omega arith)

pub returns-then-g-width-gt-MOST_SIGNALS : goal.returns-then-g-width-gt-MOST_SIGNALS
returns-then-g-width-gt-MOST_SIGNALS c =
    λ graph h q i. signal_many c.args.text.now c.args.g.now graph h _ _ (omega arith) c.if-g-width-gt-MOST_SIGNALS.true

pub returns-then-is_some : goal.returns-then-is_some
returns-then-is_some c =
    λ graph h q i. signal_again c.args.text.now c.args.g.now graph h _ _ c.if-g-gt0.false c.if-g-width-gt-MOST_SIGNALS.false c.part.ensures c.look_up_name.ensures.value (sym c.is_some.ensures ∙ c.if-is_some.true)

pub push_signal-requires : goal.push_signal-requires
push_signal-requires c =
    omega (arith, c.requires.0.named-few, c.requires.0.signals-few, c.requires.0.constants-few, c.requires.1.some, c.requires.1.most, c.requires.2, c.requires.3, c.if-g-width-gt-MOST_SIGNALS.false)

pub returns : goal.returns
returns c =
    λ graph h q i.
    rw c.push_signal.ensures
    (signal_new c.args.text.now c.args.g.now graph h _ _ c.if-g-gt0.false c.if-g-width-gt-MOST_SIGNALS.false c.part.ensures c.look_up_name.ensures.value (omega (arith, c.requires.0.named-few, c.requires.0.signals-few, c.requires.0.constants-few, c.requires.1.some, c.if-g-width-gt-MOST_SIGNALS.false)) _ _ q i (sym c.is_some.ensures ∙ c.if-is_some.false))
