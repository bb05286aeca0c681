-- `put_chain` meets its contract: the terms that are left make the gates that are left. Assumes nothing.
use Rattle.std.proofs.Common.{◌≡◌, drop}
use Rattle.builder.specs.Private.Adding.{Going}
use Rattle.builder.specs.Private.Terms.{terms_of, or_on}
use Rattle.builder.proofs.gates.Gates.put_chain.Given as goal

abbrev pub invariant-loop-i : goal.invariant-loop-i
invariant-loop-i l = let p = or_on l.fn.start l.initial.self.next.0 (terms_of l.v l.keys l.lits) in
    let q = or_on l.chain l.self.next.0 (terms_of l.v (drop l.i l.keys) (drop l.i l.lits)) in
    Going l.initial.self l.self p.gates q.gates × (q.out ≡ p.out) × (l.self.out.ghost_name ≡ l.initial.self.out.ghost_name)
