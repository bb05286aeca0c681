-- `put_bits` meets its contract: three gates a turn, and the literals stored so far are the first of them. Assumes
-- nothing.
use Rattle.std.proofs.Common.{◌≡◌, ◌-◌, ◌++◌, length, take}
use Rattle.builder.specs.Private.Adding.{Going}
use Rattle.builder.specs.Private.Machine.{differ_bits}
use Rattle.builder.proofs.gates.Gates.put_bits.Given as goal

abbrev pub invariant-loop-i : goal.invariant-loop-i
invariant-loop-i l = let width = length l.initial.differ in
    let all = differ_bits l.initial.self.next.0 l.p l.q 0 width in
    let left = differ_bits l.self.next.0 l.p l.q l.i (width - l.i) in
    Going l.initial.self l.self all.gates left.gates × (take l.i l.differ ++ left.outs ≡ all.outs) × (l.self.out.ghost_name ≡ l.initial.self.out.ghost_name)
