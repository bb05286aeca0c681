-- `graph::modes::some_marked` meets its contract. Assumes nothing.
use mathlib.Core.Path.{◌≡◌}
use mathlib.Core.Bool.{true, false}
use borrow.Author.Rules.{rules}
use borrow.Author.Tests.{tests}
use lib.ListN.{take}
use Rattle.std.proofs.lemmas.Iterator.{YieldsList-from_slice, cases_from_any}
use Rattle.graph.specs.declared.Arc.{Arc}
use Rattle.graph.proofs.SearchLaws.{any_by}
use Rattle.graph.proofs.modes.some_marked.Goals as goal

pub returns : goal.returns
returns c =
    let g = c.args.g in
    any_by (λ (a : Arc). a.terminal) (take g.edges g.arcs) c.any.result
    (cases_from_any _ _ _ (λ a. a.terminal ≡ true) (λ a. a.terminal ≡ false) c.any.ensures.ran (YieldsList-from_slice (take g.edges g.arcs) cc) (λ x q k. search (rules, tests)) (λ x q k. search (rules, tests)))
