-- `graph::modes::make_terminal` meets its contract: the edges before the index are terminal, the others as they
-- were. Assumes nothing.
use mathlib.Core.Path.{ap, sym}
use mathlib.Core.List.{List, ◌++◌}
use lib.ListN.{take, drop}
use Rattle.graph.specs.declared.Arc.{Arc}
use Rattle.graph.proofs.ModeLaws.{made_none, made_more, made_all}
use Rattle.graph.specs.Private.Steps.{with_arcs}
use Rattle.graph.proofs.modes.make_terminal.Goals as goal

pub loop-a-init : goal.loop-a-init
loop-a-init c = sym (made_none _)

pub loop-a-preserved : goal.loop-a-preserved
loop-a-preserved c = made_more _ _ c.loop-a.invariant

pub returns : goal.returns
returns c =
    let g = c.args.g in
    let e = made_all (take g.edges g.arcs) c.loop-a.a-index c.loop-a.invariant c.loop-a-test.false in
    ap (λ (l : List Arc). with_arcs g (l ++ drop g.edges g.arcs)) e
