-- `session_page::lines::put_cells` meets its contract: after k turns the rejected of the first k cycles are written.
-- Assumes nothing.
use mathlib.Core.Path.{◌≡◌}
use Prim.Native.Nat.{◌≤◌}
use lib.ListN.{length, take}
use Rattle.text.specs.Writer.{Writes}
use Rattle.session_text.specs.Pages.{rejected_of}
use Rattle.session_page.proofs.CellLaws.{cells_text}
use Rattle.session_page.proofs.lines.put_cells.Given as goal

abbrev pub invariant-loop-k : goal.invariant-loop-k
invariant-loop-k l = (l.cells ≤ l.k) × (l.cells ≡ length (rejected_of (take l.k l.verdicts))) × Writes l.initial.page l.page (cells_text (rejected_of (take l.k l.verdicts)))
