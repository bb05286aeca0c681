-- `fill` meets its contract: those that are left stand behind those that are stored. Assumes nothing.
use Rattle.std.proofs.Common.{◌≡◌, ◌+◌, ◌-◌, ◌*◌, ◌++◌, length, take}
use Rattle.builder.specs.Private.Terms.{every_other}
use Rattle.builder.proofs.vertices.fill.Given as goal

abbrev pub invariant-loop-i : goal.invariant-loop-i
invariant-loop-i l = take l.i l.lits ++ every_other (l.n.0 + 2 * l.i) (length l.initial.lits - l.i) ≡ every_other l.n.0 (length l.initial.lits)
