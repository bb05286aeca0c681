-- `put_edges` meets its contract: the edges that are left make the gates and literals that are left. Assumes nothing.
use Rattle.std.proofs.Common.{◌≡◌, ◌++◌, take, drop}
use Rattle.builder.specs.Private.Adding.{Going}
use Rattle.builder.specs.Private.Edges.{names_in, edges_from, edges_in, edges_of}
use Rattle.builder.proofs.gates.Gates.put_edges.Given as goal

abbrev pub invariant-loop-i : goal.invariant-loop-i
invariant-loop-i l = let p = edges_of l.g.signals l.initial.self.next.0 l.reached l.doomed (edges_in l.text l.g) in
    let q = edges_of l.g.signals l.self.next.0 l.reached l.doomed (edges_from l.text (names_in l.text l.g) l.g.signals (drop l.i (take l.g.edges l.g.arcs))) in
    Going l.initial.self l.self p.gates q.gates × (take l.i l.happy ++ q.happy ≡ p.happy) × (take l.i l.condemned ++ q.condemned ≡ p.condemned)
    × (l.self.out.ghost_name ≡ l.initial.self.out.ghost_name)
