-- `session_page::printable::count_rejected` meets its contract: after k turns the first k bytes are counted, and what is
-- left has one above 1 where the whole has. Assumes nothing.
use mathlib.Core.Path.{◌≡◌}
use Prim.Native.Nat.{◌≤◌}
use lib.ListN.{length, take, drop}
use Rattle.trace.specs.Verdicts.{all_bits}
use Rattle.session_text.specs.Pages.{rejected_of}
use Rattle.session_page.proofs.printable.count_rejected.Given as goal

abbrev pub invariant-loop-b : goal.invariant-loop-b
invariant-loop-b l = (l.rejected ≤ l.b-index) × (l.rejected ≡ length (rejected_of (take l.b-index l.verdicts))) × (all_bits (drop l.b-index l.verdicts) ≡ all_bits l.verdicts)
