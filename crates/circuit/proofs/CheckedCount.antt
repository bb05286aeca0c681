-- With checked, 2T − 1 gates more where there is a terminal edge, and at most 12 for an edge and 3 for an operator. Assumes nothing.
use Prim.Native.Nat.{◌+◌, ◌*◌, ◌≤◌}
use mathlib.Core.Path.{◌≡◌}
use mathlib.Core.Bool.{Bool, true, false, cond}
use native.Mathlib.Omega.{arith}
use lib.ListN.{length}
use Rattle.assertion.specs.Graph.{Graph}
use Rattle.circuit.specs.Checked.{gates_with}
use Rattle.circuit.specs.Count.{all_operators, gate_formula_with}
use Rattle.circuit.proofs.Fits.{Fits}
use Rattle.circuit.proofs.Count.{terminals-most, count, bound}
use Rattle.circuit.proofs.CheckedGates.{checked-means}

pub count_with : (checked : Bool) (g : Graph) → Fits g → length (gates_with checked g) ≡ gate_formula_with checked g
unfolding gate_formula_with
count_with true g fits = omega (arith, (checked-means g).gates.count, count g fits)
count_with false g fits = omega (arith, count g fits)

pub bound_with : (checked : Bool) (g : Graph) → gate_formula_with checked g ≤ cond checked 12 10 * length g.edges + 3 * all_operators g.edges
unfolding gate_formula_with
bound_with true g = omega (arith, bound g, terminals-most g g.edges)
bound_with false g = omega (arith, bound g)
