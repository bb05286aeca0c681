-- `put_checked` meets its contract: all alive, and then the chain. Assumes nothing.
use Rattle.std.proofs.Common.{◌∙◌, refl, sym, rules}
use Rattle.builder.proofs.AddingLaws.{room-first, room-second, whole_of}
use Rattle.builder.proofs.TermLaws as laws
use Rattle.builder.proofs.gates.Gates.put_checked.Goals as goal

pub put_alives-requires : goal.put_alives-requires
put_alives-requires c =
    let a = c.args in
    let p = c.requires in
    let t = laws.checked-parts a.self.now.next.0 a.marks.now a.happy.now a.condemned.now _ refl in
    (room-first t.0 p.0, p.2, p.3, search rules)

pub put_chain-requires : goal.put_chain-requires
put_chain-requires c =
    let a = c.args in
    let m = c.put_alives.ensures in
    let t = laws.checked-parts a.self.now.next.0 a.marks.now a.happy.now a.condemned.now _ m.made.count in
    (rw m.outs (room-second t.0 c.requires.0 m.made), search rules)

pub returns-clause-made : goal.returns-clause-made
returns-clause-made c =
    let a = c.args in
    let m = c.put_alives.ensures in
    let t = laws.checked-parts a.self.now.next.0 a.marks.now a.happy.now a.condemned.now _ m.made.count in
    let k = rw m.outs at c.put_chain.ensures.made in
    record { gates = whole_of t.0 m.made k.gates; out = k.out ∙ sym t.1 }
