-- `put_bits` meets its contract: three gates a turn, and the literals stored so far are the first of them. Assumes
-- nothing.
use Rattle.std.proofs.Common.{◌∙◌, length, arith}
use Rattle.builder.proofs.AddingLaws.{go}
use Rattle.builder.proofs.TermLaws.{fill_step}
use Rattle.builder.proofs.AlikeLaws.{differ_step}
use Rattle.builder.proofs.gates.Gates.put_bits.Goals as goal

pub loop-i-preserved : goal.loop-i-preserved
loop-i-preserved c =
    let l = c.loop-i in
    let k = rw (c.bit_literal.ensures, c.bit_literal-in-loop-i.ensures) at c.put_xor-bit.ensures.made in
    let t = differ_step c.args.p c.args.q l.self.next.0 l.i (length c.args.differ.now) _ (omega arith) k.gates.count in
    (go l.invariant.0 t.0 k.gates, fill_step _ l.i _ _ _ _ _ (omega arith) l.invariant.1 t.1 k.out, c.put_xor-bit.ensures.same ∙ l.invariant.2)
