-- What the line of a latch and the two byte runs of a gate say, test by test, once they were read. Assumes nothing.
use Rattle.std.specs.Prelude.{Option, Some, None}
use mathlib.Core.Path.{◌≡◌, sym, ap, ◌∙◌}
use mathlib.Core.List.{List, [], ◌∷◌}
use Prim.Native.Nat.{ℕ, ◌-◌, ◌≤◌, ◌<◌}
use borrow.Author.Tests.{le-leb, lt-leb}
use lib.ListN.{get_or}
use Rattle.aiger_lines.specs.declared.Fault.TheVariants.{WrongShape, OutOfLimits}
use Rattle.aiger_lines.specs.declared.Line.{Line}
use Rattle.aiger_lines.specs.Fields.{either_of}
use Rattle.aiger_lines.specs.Lines.{Row, row, fault, latch_says}
use Rattle.aiger_lines.specs.Private.Steps.{LineIs}
use Rattle.aiger_lines.proofs.LineLaws.{judged-wrong, judged_as}
use Rattle.packed_read.specs.Runs.{Run, took, broken, run_at}
use Rattle.packed_read.specs.Lines.{latch_at, on_run, second_at, gate_at}
use Rattle.packed_read.specs.Private.Steps.{run_in}

-- ---- a latch

module _ (s : List ℕ) (free p : ℕ) (o : Option Line) (is : LineIs (either_of s 0 p) o) (last lit : ℕ) where
  pub latch_wrong : o ≡ None → fault WrongShape ≡ latch_at s last lit free p
  unfolding latch_at
  latch_wrong h = judged-wrong (either_of s 0 p) o is h _

  pub latch_as : (l : Line) → o ≡ Some l → (r : Row) → r ≡ latch_says last lit free (get_or l.values 0 0) (get_or l.values 1 0) l.next → r ≡ latch_at s last lit free p
  unfolding latch_at
  latch_as l h r x = judged_as (either_of s 0 p) o l is h _ _ (λ vs e. rw (← e 0, ← e 1) x)

-- ---- a run that was read

pub run-took : {x : Run} {r : Option (ℕ × ℕ)} {v q : ℕ} → run_in r ≡ x → r ≡ Some (v, q) → x ≡ took v q
unfolding run_in
run-took e h = sym e ∙ ap run_in h

pub run-broken : {x : Run} {r : Option (ℕ × ℕ)} → run_in r ≡ x → r ≡ None → x ≡ broken
unfolding run_in
run-broken e h = sym e ∙ ap run_in h

-- ---- the runs of a gate

module _ (s : List ℕ) (free p : ℕ) where
  module _ (r0 : ℕ) where
    pub second_none : run_at s p ≡ broken → second_at s r0 free p ≡ fault WrongShape
    unfolding second_at on_run
    second_none e = rw e

    pub second_above : (d q : ℕ) → run_at s p ≡ took d q → r0 < d → second_at s r0 free p ≡ fault OutOfLimits
    unfolding second_at on_run
    second_above d q e h = rw (e, lt-leb d r0 h)

    pub second_good : (d q : ℕ) → run_at s p ≡ took d q → d ≤ r0 → second_at s r0 free p ≡ row (r0 ∷ (r0 - d) ∷ []) free q
    unfolding second_at on_run
    second_good d q e h = rw (e, le-leb d r0 h)

  module _ (lit : ℕ) where
    pub gate-none : run_at s p ≡ broken → gate_at s lit free p ≡ fault WrongShape
    unfolding gate_at on_run
    gate-none e = rw e

    pub gate-zero : (d q : ℕ) → run_at s p ≡ took d q → d < 1 → gate_at s lit free p ≡ fault OutOfLimits
    unfolding gate_at on_run
    gate-zero d q e h = rw (e, lt-leb 1 d h)

    pub gate-above : (d q : ℕ) → run_at s p ≡ took d q → 1 ≤ d → lit < d → gate_at s lit free p ≡ fault OutOfLimits
    unfolding gate_at on_run
    gate-above d q e h g = rw (e, le-leb 1 d h, lt-leb d lit g)

    pub gate_good : (d q : ℕ) → run_at s p ≡ took d q → 1 ≤ d → d ≤ lit → gate_at s lit free p ≡ second_at s (lit - d) free q
    unfolding gate_at on_run
    gate_good d q e h g = rw (e, le-leb 1 d h, le-leb d lit g)
