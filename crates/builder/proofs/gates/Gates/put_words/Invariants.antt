-- `put_words` meets its contract: the words that are left make the gates that are left. Assumes nothing.
use Rattle.std.proofs.Common.{◌≡◌}
use Rattle.builder.specs.Private.Machine.{named}
use Rattle.builder.proofs.FormulaLaws.{Running}
use Rattle.builder.proofs.gates.Gates.put_words.Given as goal

abbrev pub invariant-loop-word : goal.invariant-loop-word
invariant-loop-word l =
    Running (named l.names) l.field l.words l.initial.self l.self l.stack l.height l.word-index × (l.self.out.ghost_name ≡ l.initial.self.out.ghost_name)
