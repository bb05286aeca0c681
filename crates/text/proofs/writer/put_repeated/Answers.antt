-- `text::writer::put_repeated` meets its contract: after so many turns the byte stands so many times. Assumes nothing.
use Prim.Native.Nat.{ℕ}
use lib.ListN.{replicate-append-replicate}
use Rattle.text.proofs.WriterLaws.{then}
use Rattle.text.proofs.writer.put_repeated.Goals as goal

pub loop-preserved : goal.loop-preserved
loop-preserved c = rw (← replicate-append-replicate {A = ℕ} c.loop.counter 1 c.args.b) (then c.loop.invariant c.put_byte-p.ensures)
