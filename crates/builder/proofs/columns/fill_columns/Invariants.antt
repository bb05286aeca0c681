-- `fill_columns` meets its contract: those that are left stand behind those that are stored. Assumes nothing.
use Rattle.std.proofs.Common.{◌≡◌, ◌++◌, take, drop}
use Rattle.builder.specs.Private.Edges.{arc_targets, arc_marks}
use Rattle.builder.proofs.columns.fill_columns.Given as goal

abbrev pub invariant-loop-i : goal.invariant-loop-i
invariant-loop-i l = (take l.i l.to ++ arc_targets (drop l.i l.arcs) ≡ arc_targets l.arcs) × (take l.i l.marks ++ arc_marks (drop l.i l.arcs) ≡ arc_marks l.arcs)
