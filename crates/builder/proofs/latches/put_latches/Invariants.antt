-- `put_latches` meets its contract: those that are left stand behind those that are stored. Assumes nothing.
use Rattle.std.proofs.Common.{◌≡◌, ◌+◌, ◌*◌, drop}
use Rattle.std.proofs.lemmas.List.Edits.{sets}
use Rattle.builder.specs.Private.Monitor.{edge_pairs}
use Rattle.builder.proofs.latches.put_latches.Given as goal

abbrev pub invariant-loop-i : goal.invariant-loop-i
invariant-loop-i l = (l.p ≡ l.at + 4 * l.i) × (sets l.net l.p (edge_pairs (drop l.i l.happy) (drop l.i l.condemned)) ≡ sets l.initial.net l.at (edge_pairs l.happy l.condemned))
