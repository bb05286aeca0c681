-- `put_constants` meets its contract: those that are left stand behind those that are stored. Assumes nothing.
use Rattle.std.proofs.Common.{◌≡◌, ◌+◌, ◌-◌, ◌*◌}
use Rattle.std.proofs.lemmas.List.Edits.{sets}
use Rattle.circuit.specs.Numbers.{constant_latches}
use Rattle.builder.proofs.latches.put_constants.Given as goal

abbrev pub invariant-loop-i : goal.invariant-loop-i
invariant-loop-i l = (l.p ≡ l.at + 2 * l.i) × (sets l.net l.p (constant_latches (l.l.0 + l.i) (l.count - l.i)) ≡ sets l.initial.net l.at (constant_latches l.l.0 l.count))
