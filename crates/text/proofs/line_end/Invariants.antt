-- `text::line_end` meets its contract: the line's end from here is the line's end. Assumes nothing.
use mathlib.Core.Path.{◌≡◌}
use Prim.Native.Nat.{◌≤◌, max}
use lib.ListN.{length}
use Rattle.text.specs.Lines.{line_end}
use Rattle.text.proofs.line_end.Given as goal

abbrev pub invariant-loop-k : goal.invariant-loop-k
invariant-loop-k l = (l.k ≤ max l.at (length l.s)) × (line_end l.s l.k ≡ line_end l.s l.at)
