-- `inverse` meets its contract. Assumes nothing.
use mathlib.Core.Path.{◌≡◌}
use Prim.Native.Nat.{ℕ, ◌<◌}
use native.Mathlib.Omega.{arith}
use Rattle.netlist.specs.Literals.{variable_of}
use Rattle.circuit.specs.Gates.{inv}
use Rattle.netlist.proofs.LiteralLaws.{made}
use Rattle.builder.proofs.gates.inverse.Goals as goal

-- a literal's variable is below 32,768
half : (lit : ℕ) {v : ℕ} → lit < 65536 → v ≡ variable_of lit → v < 32768
unfolding variable_of
half lit h e = omega arith

pub returns : goal.returns
unfolding inv
returns c =
    let e = c.variable-v.ensures in
    let i = c.is_inverted.ensures in
    rw (e, i) at (made _ _ (half c.args.l.0 (omega arith) e) c.literal.ensures)
