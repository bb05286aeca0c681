-- `builder::count::field_gates` meets its contract. Assumes nothing.
use Rattle.std.proofs.Common.{◌∙◌, sym, arith}
use lib.ListN.{length-take}
use Rattle.builder.specs.Private.Machine.{read_gates, field_gates}
use Rattle.builder.proofs.CountLaws.{words-room}
use Rattle.builder.proofs.count.field_gates.Goals as goal

pub shared_ref_as_front-words_gates : goal.shared_ref_as_front-words_gates
shared_ref_as_front-words_gates c = (words-room _ (sym c.in-Some.ensures.value)).0

pub words_gates-requires : goal.words_gates-requires
words_gates-requires c = (c.requires, rw length-take (omega (arith, words-room _ (sym c.in-Some.ensures.value))))

pub returns-in-Some : goal.returns-in-Some
unfolding field_gates read_gates
returns-in-Some c = (c.words_gates.ensures.0 ∙ rw (← c.part-field.ensures, ← c.in-Some.ensures.value), c.words_gates.ensures.1)

pub returns-in-None : goal.returns-in-None
unfolding field_gates read_gates
returns-in-None c = (rw (← c.part-field.ensures, ← c.in-None.ensures.value), omega arith)
