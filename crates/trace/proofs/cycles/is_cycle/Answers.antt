-- `trace::cycles::is_cycle` meets its contract. Assumes nothing.
use mathlib.Core.Path.{◌∙◌}
use borrow.Author.Tests.{eq-eqb, ne_eqb}
use borrow.Author.Rules.{rules}
use Rattle.std.proofs.lemmas.Iterator.{YieldsList-from_slice}
use Rattle.std.proofs.lemmas.Iterator.Search.{all_from_yields_List}
use Rattle.netlist.proofs.EachLaws.{each_list}
use Rattle.trace.specs.Traces.{is_bit, is_cycle}
use Rattle.trace.proofs.cycles.is_cycle.Goals as goal

pub returns-then-cycle-n : goal.returns-then-cycle-n
unfolding is_cycle
returns-then-cycle-n c =
    let cycle = c.args.cycle.now in
    let e = all_from_yields_List is_bit _ _ c.all.result c.all.ensures.ran (YieldsList-from_slice cycle cc) (λ x b q k. search rules) in
    rw (eq-eqb _ _ c.if-cycle-n.true) (e ∙ each_list is_bit cycle)

pub returns-else-cycle-n : goal.returns-else-cycle-n
unfolding is_cycle
returns-else-cycle-n c = rw (ne_eqb _ _ c.if-cycle-n.false)
