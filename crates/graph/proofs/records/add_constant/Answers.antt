-- `graph::records::add_constant` meets its contract. Assumes nothing.
use Rattle.graph.proofs.ArrayLaws.{constant_late, constant_many, constant_again, constant_new}
use mathlib.Core.Path.{sym, ◌∙◌}
use native.Mathlib.Omega.{arith}
use Rattle.graph.proofs.records.add_constant.Goals as goal

pub returns-then-g-gt0 : goal.returns-then-g-gt0
returns-then-g-gt0 c =
    λ graph h q i. constant_late c.args.text.now c.args.g.now graph h _ _ (omega arith)

pub returns-then-g-width-gt-MOST_CONSTANTS : goal.returns-then-g-width-gt-MOST_CONSTANTS
returns-then-g-width-gt-MOST_CONSTANTS c =
    λ graph h q i. constant_many c.args.text.now c.args.g.now graph h _ _ (omega arith) c.if-g-width-gt-MOST_CONSTANTS.true

pub returns-then-is_some : goal.returns-then-is_some
returns-then-is_some c =
    λ graph h q i. constant_again c.args.text.now c.args.g.now graph h _ _ c.if-g-gt0.false c.if-g-width-gt-MOST_CONSTANTS.false c.part.ensures c.look_up_name.ensures.value (sym c.is_some.ensures ∙ c.if-is_some.true)

pub push_constant-requires : goal.push_constant-requires
push_constant-requires c =
    omega (arith, c.requires.0.named-few, c.requires.0.signals-few, c.requires.0.constants-few, c.requires.1.some, c.requires.1.most, c.requires.2, c.requires.3, c.if-g-width-gt-MOST_CONSTANTS.false)

pub returns : goal.returns
returns c =
    λ graph h q i.
    rw c.push_constant.ensures
    (constant_new c.args.text.now c.args.g.now graph h _ _ c.if-g-gt0.false c.if-g-width-gt-MOST_CONSTANTS.false c.part.ensures c.look_up_name.ensures.value (omega (arith, c.requires.0.named-few, c.requires.0.signals-few, c.requires.0.constants-few, c.requires.1.some, c.if-g-width-gt-MOST_CONSTANTS.false)) _ _ q i (sym c.is_some.ensures ∙ c.if-is_some.false))
