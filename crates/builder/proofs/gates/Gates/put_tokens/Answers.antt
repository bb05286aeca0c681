-- `put_tokens` meets its contract: five gates, one after another. Assumes nothing.
use Rattle.std.proofs.Common.{◌≡◌, ◌+◌, ◌∙◌, ap, arith}
use Rattle.circuit.specs.Gates.{lit}
use Rattle.builder.specs.Private.Terms.{tokens_of}
use Rattle.builder.proofs.AddingLaws.{then}
use Rattle.builder.proofs.gates.Gates.put_tokens.Goals as goal

pub returns-clause-made : goal.returns-clause-made
unfolding tokens_of
returns-clause-made c =
    let m = c.args.self.now.next.0 in
    let p = c.put_and-p.ensures.made in
    let h = c.put_and-happy_now.ensures.made in
    let q = c.put_and-q.ensures.made in
    let r = c.put_and-r.ensures.made in
    let d = c.put_or.ensures.made in
    let q_is : c.put_and-q.result.0 ≡ lit (m + 2) = q.out ∙ ap lit (omega (arith, p.gates.count, h.gates.count)) in
    let r_is : c.put_and-r.result.0 ≡ lit (m + 3) = r.out ∙ ap lit (omega (arith, p.gates.count, h.gates.count, q.gates.count)) in
    rw (c.inverse.ensures, p.out, q_is, r_is) at (then p.gates (then h.gates (then q.gates (then r.gates d.gates))))
