-- A pass over the byte part of a packed file. Assumes nothing.
use Rattle.std.specs.Prelude.{Result, Ok, Err}
use mathlib.Core.Path.{◌≡◌, sym, ap}
use mathlib.Core.List.{List}
use Prim.Native.Nat.{ℕ}
use Rattle.aiger_lines.specs.declared.Cursor.{Cursor}
use Rattle.aiger_lines.specs.declared.Fault.{Fault}
use Rattle.aiger_lines.specs.Blocks.{Rows, rows, failed}
use Rattle.aiger_lines.specs.Private.Steps.{Took}
use Rattle.aiger_lines.proofs.PassLaws.{past-failed}
use Rattle.packed_read.specs.Files.{in_bytes}

-- ---- the byte part, whose faults have line 0

module _ (x : Rows) (net after : List ℕ) (place : ℕ) where
  pub took-bytes : (c : Cursor) → Took x net after place (Ok c) → Took (in_bytes x) net after place (Ok c)
  unfolding Took in_bytes
  took-bytes c t = go x t
    where
      go : (y : Rows) → Took y net after place (Ok c) → Took (in_bytes y) net after place (Ok c)
      go (rows ns free q) u = u
      go (failed e line) u = absurd (past-failed u.0)

  pub fault-bytes : (f b : Fault × ℕ) → Took x net after place (Err f) → b ≡ (f.0, 0) → Took (in_bytes x) net after place (Err b)
  unfolding Took in_bytes
  fault-bytes f b t z = go x t
    where
      go : (y : Rows) → Took y net after place (Err f) → Took (in_bytes y) net after place (Err b)
      go (rows ns free q) u = absurd (past-failed (sym u.0))
      go (failed e' line) u = let same : f.0 ≡ e' = ap fault_of u.0 in (rw (z, same), u.1)
        where
          fault_of : Result Cursor (Fault × ℕ) → Fault
          fault_of (Ok c) = f.0
          fault_of (Err g) = g.0
