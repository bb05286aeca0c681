-- `graph_length` meets its contract: what is passed and the bytes before a `T` from here make the graph part. Assumes nothing.
use mathlib.Core.Path.{◌≡◌}
use Prim.Native.Nat.{◌+◌}
use lib.ListN.{drop}
use Rattle.page_text.specs.Parts.{bytes_before, graph_length}
use Rattle.page_text.proofs.parts.graph_length.Given as goal

abbrev pub invariant-loop-i : goal.invariant-loop-i
invariant-loop-i l = l.i + bytes_before l.starts (drop l.i l.input) ≡ graph_length l.input
