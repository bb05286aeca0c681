-- `put_cycles` meets its contract: after k turns the lines of the first k cycles are written. Assumes nothing.
use Rattle.text.specs.Writer.{Writes, joined}
use Rattle.page_text.specs.Lines.{cycle_line}
use Rattle.page_text.proofs.lines.put_cycles.Given as goal

abbrev pub invariant-loop-k : goal.invariant-loop-k
invariant-loop-k l = Writes l.initial.page l.page (joined (cycle_line l.bytes) l.k)
