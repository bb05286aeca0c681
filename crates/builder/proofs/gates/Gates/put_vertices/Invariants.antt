-- `put_vertices` meets its contract: the vertices that are left make the gates and literals that are left. Assumes nothing.
use Rattle.std.proofs.Common.{◌≡◌, ◌-◌, ◌++◌, length, take}
use Rattle.builder.specs.Private.Adding.{Going}
use Rattle.builder.specs.Private.Terms.{vertices_of}
use Rattle.builder.proofs.gates.Gates.put_vertices.Given as goal

abbrev pub invariant-loop-v : goal.invariant-loop-v
invariant-loop-v l = let count = length l.initial.reached in
    let p = vertices_of l.initial.self.next.0 l.to l.happy l.condemned 0 count in
    let q = vertices_of l.self.next.0 l.to l.happy l.condemned l.v (count - l.v) in
    Going l.initial.self l.self p.gates q.gates × (take l.v l.reached ++ q.happy ≡ p.happy) × (take l.v l.doomed ++ q.condemned ≡ p.condemned)
    × (l.self.out.ghost_name ≡ l.initial.self.out.ghost_name)
