-- `put_vertex` meets its contract: the happy chain, and then the condemned one. Assumes nothing.
use Rattle.std.proofs.Common.{◌∙◌, refl, sym}
use Rattle.builder.proofs.AddingLaws.{room-first, room-second, whole_of}
use Rattle.builder.proofs.TermLaws as laws
use Rattle.builder.proofs.gates.Gates.put_vertex.Goals as goal

pub put_chain-happy-requires : goal.put_chain-happy-requires
put_chain-happy-requires c =
    let a = c.args in
    let t = laws.vertex-parts a.to.now a.happy.now a.condemned.now a.self.now.next.0 a.v _ refl in
    rw c.begun.ensures (room-first t.0 c.requires.0, c.requires.1)

pub put_chain-condemned-requires : goal.put_chain-condemned-requires
put_chain-condemned-requires c =
    let a = c.args in
    let h = rw c.begun.ensures at c.put_chain-happy.ensures.made in
    let t = laws.vertex-parts a.to.now a.happy.now a.condemned.now a.self.now.next.0 a.v _ h.gates.count in
    (room-second t.0 c.requires.0 h.gates, c.requires.2)

pub returns-clause-made : goal.returns-clause-made
returns-clause-made c =
    let a = c.args in
    let h = rw c.begun.ensures at c.put_chain-happy.ensures.made in
    let t = laws.vertex-parts a.to.now a.happy.now a.condemned.now a.self.now.next.0 a.v _ h.gates.count in
    whole_of t.0 h.gates c.put_chain-condemned.ensures.made.gates

pub returns-clause-happy : goal.returns-clause-happy
returns-clause-happy c =
    let a = c.args in
    let h = rw c.begun.ensures at c.put_chain-happy.ensures.made in
    let t = laws.vertex-parts a.to.now a.happy.now a.condemned.now a.self.now.next.0 a.v _ h.gates.count in
    h.out ∙ sym t.1

pub returns-clause-condemned : goal.returns-clause-condemned
returns-clause-condemned c =
    let a = c.args in
    let h = rw c.begun.ensures at c.put_chain-happy.ensures.made in
    let t = laws.vertex-parts a.to.now a.happy.now a.condemned.now a.self.now.next.0 a.v _ h.gates.count in
    c.put_chain-condemned.ensures.made.out ∙ sym t.2
