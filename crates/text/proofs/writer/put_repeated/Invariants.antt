-- `text::writer::put_repeated` meets its contract: after so many turns the byte stands so many times. Assumes nothing.
use lib.ListN.{replicate}
use Rattle.text.specs.Writer.{Wrote}
use Rattle.text.proofs.writer.put_repeated.Given as goal

abbrev pub invariant-loop : goal.invariant-loop
invariant-loop l = Wrote l.initial.out l.out l.at l.p (replicate l.counter l.b)
