-- `builder::count::formulas_gates` meets its contract: the sum so far. Assumes nothing.
use Rattle.std.proofs.Common.{◌≡◌, ◌*◌, ◌≤◌, take}
use Rattle.std.specs.List.{sum_by}
use Rattle.builder.specs.Private.Machine.{named, arc_gates}
use Rattle.builder.proofs.count.formulas_gates.Given as goal

abbrev pub invariant-loop-e : goal.invariant-loop-e
invariant-loop-e l =
    (l.sum ≤ 32130 * l.e-index) × (l.sum ≡ sum_by (arc_gates l.names.text.now (named l.names)) (take l.e-index l.arcs))
