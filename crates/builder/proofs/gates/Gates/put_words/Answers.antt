-- `put_words` meets its contract: the words that are left make the gates that are left. Assumes nothing.
use Rattle.std.proofs.Common.{◌∙◌, refl}
use Rattle.builder.proofs.FormulaLaws.{running-start, running-room, running_step, running_done, running-top}
use Rattle.builder.proofs.gates.Gates.put_words.Goals as goal

pub loop-word-init : goal.loop-word-init
loop-word-init c = (running-start _ _ _ _ c.requires.3.from c.requires.2, refl)

pub put_word-made-requires : goal.put_word-made-requires
put_word-made-requires c = (c.requires.0, running-room _ _ _ _ c.loop-word.invariant.0 c.loop-word-test.true refl c.requires.3)

pub loop-word-preserved : goal.loop-word-preserved
loop-word-preserved c =
    let m = c.put_word-made.ensures in
    (running_step _ _ _ _ c.loop-word.invariant.0 c.loop-word-test.true refl c.requires.1 m.made.gates m.made.out c.taken_by.ensures, m.same ∙ c.loop-word.invariant.1)

pub returns-clause-made : goal.returns-clause-made
returns-clause-made c =
    let v = c.loop-word.invariant.0 in
    record { gates = running_done _ _ _ _ v c.loop-word-test.false; top = running-top _ _ _ _ v c.loop-word-test.false }
