-- What the calls are given, and when they refuse it (document 02, No. 12). A session is measured twice, at the flywheel
-- and at the handle. The first test that fails decides. Assumes nothing.
use Rattle.std.specs.Prelude.{Result, Ok, Err, Bool, cond, not, ◌&&◌, List, ℕ, eqb, leb, length}
use Rattle.text.specs.declared.Refusal.{Refusal}
use Rattle.trace.specs.Traces.{fault_of, line_count}
use Rattle.trace.specs.Verdicts.{all_bits}
use Rattle.first_broken.specs.declared.refusal.Cause.{Cause}
use Rattle.first_broken.specs.declared.refusal.Cause.TheVariants.{TraceTooLong, WrongWidth, FlywheelLine, HandleLine, WrongVerdicts}

-- one of the two: its trace, and the verdict bytes of that trace
pub record Measurement : Type 0 where
  pub trace : List ℕ
  pub verdicts : List ℕ

-- the number and line of each cause: "line faults are 15", "25, line 0", "26, line 0"; 1 is document 01's
unfoldable pub refusal_of : Cause → Refusal
refusal_of TraceTooLong = record { number = 1; line = 0 }
refusal_of WrongWidth = record { number = 26; line = 0 }
refusal_of (FlywheelLine line) = record { number = 15; line = line }
refusal_of (HandleLine line) = record { number = 15; line = line }
refusal_of WrongVerdicts = record { number = 25; line = 0 }

-- ---- each test by its name
-- "trace over 1,048,576": it is not
unfoldable pub is_short : List ℕ → Bool
is_short trace = leb (length trace) 1048576

-- "lines of one stated width, 1 to 64"
unfoldable pub is_width : ℕ → Bool
is_width width = leb 1 width && leb width 64

-- as many bytes as there are cycles, "holding" none "above 1"
unfoldable pub are_verdicts : List ℕ → ℕ → Bool
are_verdicts bytes cycles = eqb (length bytes) cycles && all_bits bytes

-- the verdict bytes of a trace without a wrong line
unfoldable pub is_judged : ℕ → Measurement → Bool
is_judged width m = are_verdicts m.verdicts (line_count width m.trace)

-- ---- the tests in order: 26 "after 1 and before 15", 15 "flywheel first", 25 "after 15"
unfoldable pub check_of : ℕ → Measurement → Measurement → Result Unit Cause
check_of width flywheel handle =
    let first = fault_of width flywheel.trace in
    let second = fault_of width handle.trace in
    cond (not (is_short flywheel.trace && is_short handle.trace)) (Err TraceTooLong)
    (cond (not (is_width width)) (Err WrongWidth)
    (cond (not (eqb first 0)) (Err (FlywheelLine first))
    (cond (not (eqb second 0)) (Err (HandleLine second))
    (cond (not (is_judged width flywheel && is_judged width handle)) (Err WrongVerdicts)
    (Ok tt)))))
