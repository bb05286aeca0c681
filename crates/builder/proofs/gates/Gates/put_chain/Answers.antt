-- `put_chain` meets its contract: the terms that are left make the gates that are left. Assumes nothing.
use Rattle.std.proofs.Common.{◌+◌, ◌∙◌, refl, ap, sym, get_or}
use Rattle.netlist.specs.declared.literals.Literal.{Literal}
use Rattle.builder.proofs.AddingLaws.{go, going_room, done}
use Rattle.builder.proofs.TermLaws as laws
use Rattle.builder.proofs.gates.Gates.put_chain.Goals as goal
use Rattle.builder.proofs.gates.Gates.put_chain.Goals.{then-keys-i, else-keys-i}

pub put_term-requires : goal.put_term-requires
put_term-requires c =
    let a = c.args in
    let l = c.loop-i in
    let e = laws.left_term a.v a.keys.now a.lits.now c.requires.1 l.i c.loop-i-test.true c.if-keys-i.true in
    going_room (rw e at l.invariant.0) (laws.turn l.chain l.self.next.0 (get_or a.lits.now l.i 0) _ _ (laws.left a.v a.keys.now a.lits.now c.requires.1 (l.i + 1)) refl refl).0 c.requires.0

pub loop-i-preserved : goal.loop-i-preserved
loop-i-preserved c =
    let a = c.args in
    let l = c.loop-i in
    elim c.if-keys-i.branch [
      | then-keys-i w ↦
          let k = w.put_term.ensures in
          let e = laws.left_term a.v a.keys.now a.lits.now c.requires.1 l.i c.loop-i-test.true w.if-keys-i.true in
          let t = laws.turn l.chain l.self.next.0 (get_or a.lits.now l.i 0) _ _ (laws.left a.v a.keys.now a.lits.now c.requires.1 (l.i + 1)) k.made.gates.count k.made.out in
          rw (w.self-is, w.chain-is) (go (rw e at l.invariant.0) t.0 k.made.gates, sym t.1 ∙ (rw e at l.invariant.1), k.same ∙ l.invariant.2)
      | else-keys-i w ↦
          let e = laws.left-none a.v a.keys.now a.lits.now c.requires.1 l.i c.loop-i-test.true w.if-keys-i.false in
          rw (w.self-is, w.chain-is) (rw e at l.invariant.0, rw e at l.invariant.1, l.invariant.2)
    ]

pub returns-clause-made : goal.returns-clause-made
returns-clause-made c =
    let a = c.args in
    let l = c.loop-i in
    let e = laws.left_end a.v a.keys.now a.lits.now c.requires.1 l.i c.loop-i-test.false in
    record {
      gates = done (rw e at l.invariant.0) (laws.or_end l.chain l.self.next.0);
      out = ap (λ (x : Literal). x.0) c.unwrap_or.ensures ∙ laws.or_out l.chain c.literal.result l.self.next.0 c.literal.ensures ∙ (rw e at l.invariant.1);
    }
