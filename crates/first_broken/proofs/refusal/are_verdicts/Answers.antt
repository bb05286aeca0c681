-- `first_broken::refusal::are_verdicts` meets its contract. Assumes nothing.
use mathlib.Core.Path.{◌∙◌}
use borrow.Author.Tests.{eq-eqb, ne_eqb}
use Rattle.std.proofs.Common.{rules, tests}
use lib.Dec.{leb}
use Rattle.std.proofs.lemmas.Iterator.{YieldsList-from_slice}
use Rattle.std.proofs.lemmas.Iterator.Search.{all_from_yields_List}
use Rattle.first_broken.specs.Refusals.{are_verdicts}
use Rattle.trace.proofs.VerdictLaws.{bits_list}
use Rattle.first_broken.proofs.refusal.are_verdicts.Goals as goal

pub returns-then-bytes-cycles : goal.returns-then-bytes-cycles
unfolding are_verdicts
returns-then-bytes-cycles c =
    let bytes = c.args.bytes.now in
    let e = all_from_yields_List (λ b. leb b 1) _ _ c.all.result c.all.ensures.ran (YieldsList-from_slice bytes cc) (λ x b q k. search (rules, tests)) in
    rw (eq-eqb _ _ c.if-bytes-cycles.true) (e ∙ bits_list bytes)

pub returns-else-bytes-cycles : goal.returns-else-bytes-cycles
unfolding are_verdicts
returns-else-bytes-cycles c = rw (ne_eqb _ _ c.if-bytes-cycles.false)
