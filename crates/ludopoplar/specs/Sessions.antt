-- The calls of document 02, No. 12, on a session that was measured twice: the return code of the check; and which trace
-- broke first, with place and length of the line, through three pointers. Answers are those of the definitions of check
-- and find. The second call is never refused. Assumes nothing.
use Rattle.std.specs.Prelude.{Result, Ok, Err, ℕ}
use Rattle.first_broken.specs.declared.refusal.Cause.{Cause}
use Rattle.first_broken.specs.declared.places.Side.{Side}
use Rattle.first_broken.specs.declared.places.Side.TheVariants.{Flywheel, Handle}
use Rattle.first_broken.specs.declared.places.Found.{Found}
use Rattle.first_broken.specs.Refusals.{Measurement, refusal_of, check_of}
use Rattle.first_broken.specs.Places.{found_of}
use Rattle.ludopoplar.specs.Codes.{accepted_code, code_of}

-- ---- the check
unfoldable pub check_code : Result Unit Cause → ℕ
check_code (Ok tt) = accepted_code
check_code (Err cause) = code_of (refusal_of cause)

unfoldable pub broken_check_call : ℕ → Measurement → Measurement → ℕ
broken_check_call width flywheel handle = check_code (check_of width flywheel handle)

-- ---- the line: trace 0 is the flywheel's, 1 the handle's
pub record BrokenLineEnd : Type 0 where
  pub code : ℕ
  pub trace : ℕ
  pub offset : ℕ
  pub length : ℕ

abbrev pub broken_line_end : ℕ → ℕ → ℕ → ℕ → BrokenLineEnd
broken_line_end c t o l = record { code = c; trace = t; offset = o; length = l }

unfoldable pub trace_number : Side → ℕ
trace_number Flywheel = 0
trace_number Handle = 1

unfoldable pub broken_line_as : Found → BrokenLineEnd
broken_line_as found = broken_line_end accepted_code (trace_number found.side) found.at found.length

unfoldable pub broken_line_call : ℕ → Measurement → Measurement → BrokenLineEnd
broken_line_call width flywheel handle = broken_line_as (found_of width flywheel handle)
