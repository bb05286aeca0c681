-- `put_alike` meets its contract: the bits, and then the chain over them. Assumes nothing.
use Rattle.std.proofs.Common.{◌∙◌, refl, sym}
use Rattle.builder.proofs.AddingLaws.{room-first, room-second, whole_of}
use Rattle.builder.proofs.AlikeLaws.{room-length, alike-parts}
use Rattle.builder.proofs.gates.Gates.put_alike.Goals as goal

pub put_bits-requires : goal.put_bits-requires
put_bits-requires c =
    let p = c.requires in
    let t = alike-parts c.args.self.now.next.0 c.args.p c.args.q c.args.width _ p.2 refl refl refl in
    rw (room-length c.args.width 0 p.2) (p.0, p.1, p.2, room-first t.0 p.3)

pub put_accept-requires : goal.put_accept-requires
put_accept-requires c =
    let p = c.requires in
    let b = rw (room-length c.args.width 0 p.2) at c.put_bits.ensures in
    let t = alike-parts c.args.self.now.next.0 c.args.p c.args.q c.args.width _ p.2 refl b.outs b.made.count in
    (room-second t.0 p.3 b.made, rw (room-length c.args.width 1 p.2) (c.put_bits.auto.differ ∙ room-length c.args.width 0 p.2))

pub returns-clause-made : goal.returns-clause-made
returns-clause-made c =
    let p = c.requires in
    let b = rw (room-length c.args.width 0 p.2) at c.put_bits.ensures in
    let a = c.put_accept.ensures.made in
    let t = alike-parts c.args.self.now.next.0 c.args.p c.args.q c.args.width _ p.2 refl b.outs b.made.count in
    record { gates = whole_of t.0 b.made a.gates; out = a.out ∙ sym t.1 }
