-- `graph::formulas::word_known` meets its contract. Assumes nothing.
use Prim.Native.Nat.{◌≤◌, ◌<◌}
use mathlib.Core.Path.{sym, ◌∙◌}
use mathlib.Core.Logic.{◌⊎◌, inl, inr, ⊎_elim}
use borrow.Author.Tests.{ltb-true}
use Rattle.graph.proofs.WordLaws.{known-byte, left-unknown, both_found, one_found}
use Rattle.graph.proofs.OptionLaws.{none-not, some-not}
use Rattle.graph.proofs.formulas.word_known.Goals as goal
use Rattle.graph.proofs.formulas.word_known.Goals.{then-w-ge-ALIKE+else-is_none, else-w-ge-ALIKE}

pub returns-then-w-lt-BITS : goal.returns-then-w-lt-BITS
returns-then-w-lt-BITS c = sym (known-byte _ _ _ c.if-w-ge-NAMES.true (ltb-true _ 8192 c.if-w-lt-BITS.true-raw))

pub returns-then-is_none : goal.returns-then-is_none
returns-then-is_none c =
    left-unknown _ _ _ c.if-w-ge-ALIKE.true c.found_in.ensures (none-not _ c.is_none.ensures c.if-is_none.true)

pub returns : goal.returns
returns c =
    let w = c.args.w in
    let names : (w < 4096) ⊎ (8192 ≤ w) = ⊎_elim (λ x. inr x.1) (λ x. inl x) c.else-w-ge-NAMES.either in
    c.is_some.ensures
    ∙ elim c.if-w-ge-ALIKE.branch [
      | then-w-ge-ALIKE+else-is_none x ↦ both_found _ _ w x.if-w-ge-ALIKE.true x.found_in.ensures (some-not _ x.is_none.ensures x.if-is_none.false) c.found_in-2.ensures
      | else-w-ge-ALIKE x ↦ one_found _ _ w names x.if-w-ge-ALIKE.false c.found_in-2.ensures
    ]
