-- `put_masks` meets its contract: the masks that are left make the gates that are left. Assumes nothing.
use Rattle.std.proofs.Common.{◌≡◌, ◌+◌, ◌-◌}
use Rattle.builder.specs.Private.Adding.{Going}
use Rattle.builder.specs.Private.Terms.{mask_gates}
use Rattle.builder.proofs.gates.Gates.put_masks.Given as goal

abbrev pub invariant-loop-i : goal.invariant-loop-i
invariant-loop-i l =
    Going l.initial.self l.self (mask_gates l.l.0 l.count) (mask_gates (l.l.0 + l.i) (l.count - l.i)) × (l.self.out.ghost_name ≡ l.initial.self.out.ghost_name)
