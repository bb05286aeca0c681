-- `put_outputs` meets its contract: accept, and checked behind it. Assumes nothing.
use Rattle.std.proofs.Common.{ℕ, Some, ◌∙◌, refl, ap, sym}
use Rattle.builder.proofs.AddingLaws.{room-second, whole_of}
use Rattle.builder.proofs.TermLaws as laws
use Rattle.builder.proofs.gates.Gates.put_outputs.Goals as goal

pub put_accept-accept-requires : goal.put_accept-accept-requires
put_accept-accept-requires c =
    let a = c.args in
    (laws.room-accept a.self.now.next.0 a.marks.now a.happy.now a.condemned.now a.checked c.requires.0, c.requires.3)

pub put_checked-requires : goal.put_checked-requires
put_checked-requires c =
    let a = c.args in
    let p = c.requires in
    let m = c.put_accept-accept.ensures.made in
    let t = laws.ends_with a.self.now.next.0 a.marks.now a.happy.now a.condemned.now a.checked _ c.if-checked.true m.gates.count in
    (room-second t.0 p.0 m.gates, p.1, p.2, p.3)

pub returns-then-checked-clause-made : goal.returns-then-checked-clause-made
returns-then-checked-clause-made c =
    let a = c.args in
    let m = c.put_accept-accept.ensures.made in
    let k = c.put_checked.ensures.made in
    let t = laws.ends_with a.self.now.next.0 a.marks.now a.happy.now a.condemned.now a.checked _ c.if-checked.true m.gates.count in
    record { gates = whole_of t.0 m.gates k.gates; accepts = m.out ∙ sym t.1; seconds = ap (λ (n : ℕ). Some n) k.out ∙ sym t.2 }

pub returns-else-checked-clause-made : goal.returns-else-checked-clause-made
returns-else-checked-clause-made c =
    let a = c.args in
    let m = c.put_accept-accept.ensures.made in
    rw (laws.ends-without a.self.now.next.0 a.marks.now a.happy.now a.condemned.now a.checked c.if-checked.false)
    (record { gates = m.gates; accepts = m.out; seconds = refl })
