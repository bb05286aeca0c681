-- `graph::read_graph` meets its contract: before each line the arrays hold the graph of the lines before it, and the result of the lines that are left is the result of all. Assumes nothing.
use Prim.Native.Nat.{◌≤◌, ◌-◌, ◌+◌}
use lib.ListN.{length}
use Rattle.graph.proofs.TextLaws.{Going}
use Rattle.graph.proofs.read_graph.Given as goal

abbrev pub invariant-loop-at : goal.invariant-loop-at
invariant-loop-at l = (length l.text ≤ 32768) × (l.at ≤ length l.text) × (l.line ≤ l.at + 1) × Going l.text l.g l.at l.line

abbrev pub decreases-loop-at : goal.decreases-loop-at
decreases-loop-at l = length l.text - l.at
