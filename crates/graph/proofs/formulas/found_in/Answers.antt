-- `graph::formulas::found_in` meets its contract. Assumes nothing.
use mathlib.Core.Path.{◌∙◌, ap}
use mathlib.Core.List.{List}
use Prim.Native.Nat.{ℕ}
use native.Mathlib.Omega.{arith}
use lib.ListN.{length}
use lib.Seq.{take_all}
use Rattle.graph.specs.Pieces.{look_up_name}
use Rattle.graph.specs.Private.Steps.{held}
use Rattle.graph.proofs.formulas.found_in.Goals as goal

pub returns : goal.returns
returns c =
    let a = c.args in
    rw (← c.part-name.ensures) (c.look_up_name.ensures.value ∙ ap (λ (l : List ℕ). look_up_name c.part-name.result.now (held a.text.now l)) (take_all (length a.symbols.now) a.symbols.now (omega arith)))
