-- `block_at` meets its contract: what is taken of the lines that are left is taken of the whole block. Assumes nothing.
use Prim.Native.Nat.{ℕ, ◌+◌, ◌*◌, ◌-◌, ◌≤◌}
use Rattle.aiger_lines.specs.Lines.{Row}
use Rattle.aiger_lines.specs.Private.Steps.{Reads}
use Rattle.aiger_lines.proofs.PassLaws.{Going}
use Rattle.aiger_lines.proofs.blocks.block_at.Given as goal

abbrev pub invariant-loop-k : goal.invariant-loop-k
invariant-loop-k g l =
    record {
      within : l.k ≤ l.count;
      bound : l.cursor.place ≤ l.initial.cursor.place + 2 * l.k;
      going : (at : ℕ → ℕ → ℕ → Row) → Reads (goal.F-post g l.line_at) at l.count
          → Going at l.count l.line l.initial.cursor.free l.initial.cursor.at l.initial.net l.initial.cursor.place l.net l.k l.cursor;
    }

abbrev pub decreases-loop-k : goal.decreases-loop-k
decreases-loop-k g l = l.count - l.k
