-- What a latch's line and a gate's two byte runs say in a packed file: the numbers of the netlist that they give, or
-- the fault. Assumes nothing.
use Rattle.std.specs.Prelude.{cond, ◌&&◌, List, [], ◌∷◌, ℕ, ◌-◌, leb, get_or}
use Rattle.aiger_lines.specs.declared.Fault.TheVariants.{WrongShape, OutOfLimits}
use Rattle.aiger_lines.specs.Fields.{either_of}
use Rattle.aiger_lines.specs.Lines.{Row, row, fault, judged, latch_says}
use Rattle.packed_read.specs.Runs.{Run, took, broken, run_at}

-- a latch whose own literal is lit: next, or next and reset
unfoldable pub latch_at : List ℕ → ℕ → ℕ → ℕ → ℕ → Row
latch_at s last lit free p =
    judged (either_of s 0 p) (λ vs q. latch_says last lit free (get_or vs 0 0) (get_or vs 1 0) q)

-- the shape of a run first, then what its number says
unfoldable pub on_run : Run → (ℕ → ℕ → Row) → Row
on_run (took d q) f = f d q
on_run broken f = fault WrongShape

-- the second run of a gate whose first operand is r0: r0 − r1, so at most r0
unfoldable pub second_at : List ℕ → ℕ → ℕ → ℕ → Row
second_at s r0 free p = on_run (run_at s p) (λ d q. cond (leb d r0) (row (r0 ∷ (r0 - d) ∷ []) free q) (fault OutOfLimits))

-- the gate g: g − r0, so at least 1 and at most g; then the second run
unfoldable pub gate_at : List ℕ → ℕ → ℕ → ℕ → Row
gate_at s g free p = on_run (run_at s p) (λ d q. cond (leb 1 d && leb d g) (second_at s (g - d) free q) (fault OutOfLimits))
