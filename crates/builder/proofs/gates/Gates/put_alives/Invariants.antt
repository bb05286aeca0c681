-- `put_alives` meets its contract: the edges that are left make the gates and literals that are left. Assumes nothing.
use Rattle.std.proofs.Common.{◌≡◌, ◌++◌, take, drop}
use Rattle.builder.specs.Private.Adding.{Going}
use Rattle.builder.specs.Private.Terms.{alives_of}
use Rattle.builder.proofs.gates.Gates.put_alives.Given as goal

abbrev pub invariant-loop-i : goal.invariant-loop-i
invariant-loop-i l = let p = alives_of l.initial.self.next.0 l.marks l.happy l.condemned in
    let q = alives_of l.self.next.0 (drop l.i l.marks) (drop l.i l.happy) (drop l.i l.condemned) in
    Going l.initial.self l.self p.gates q.gates × (take l.i l.alive ++ q.outs ≡ p.outs) × (l.self.out.ghost_name ≡ l.initial.self.out.ghost_name)
