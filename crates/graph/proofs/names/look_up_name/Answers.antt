-- `graph::names::look_up_name` meets its contract: what is left has the name where all has. Assumes nothing.
use mathlib.Core.Path.{◌∙◌, ap}
use mathlib.Core.List.{List}
use Prim.Native.Nat.{ℕ}
use Rattle.graph.specs.Pieces.{look_up_name}
use Rattle.graph.specs.Private.Steps.{held}
use Rattle.graph.proofs.LookUpLaws.{look_up-means}
use Rattle.graph.proofs.PieceLaws.{same_is}
use Rattle.graph.proofs.NameLaws.{first_least, name_found_lem, name-later, name-none}
use Rattle.graph.proofs.names.look_up_name.Goals as goal

pub loop-y-init : goal.loop-y-init
loop-y-init c = ap (λ (l : List ℕ). look_up_name c.args.name.now (held c.args.text.now l)) (first_least c.args.symbols.now c.args.count c.min.ensures)

pub returns-then-eq : goal.returns-then-eq
returns-then-eq c =
    let a = c.args in
    let e = name_found_lem a.text.now a.name.now _ c.loop-y.y-index c.loop-y-test.true c.part.ensures (c.eq.ensures ∙ same_is _ _) c.if-eq.true ∙ c.loop-y.invariant in
    record { value = e; found = look_up-means _ _ e }

pub loop-y-preserved : goal.loop-y-preserved
loop-y-preserved c =
    let a = c.args in
    name-later a.text.now a.name.now _ c.loop-y.y-index c.loop-y-test.true c.part.ensures (c.eq.ensures ∙ same_is _ _) c.if-eq.false ∙ c.loop-y.invariant

pub returns : goal.returns
returns c =
    let a = c.args in
    let e = name-none a.text.now a.name.now _ c.loop-y.y-index c.loop-y-test.false ∙ c.loop-y.invariant in
    record { value = e; found = look_up-means _ _ e }
