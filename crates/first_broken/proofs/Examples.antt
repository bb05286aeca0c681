-- Sessions worked with their bytes written out: what the check answers, and the part that is handed back. Assumes nothing.
use Rattle.std.specs.Prelude.{Result, Ok, Err}
use mathlib.Core.Path.{◌≡◌, refl}
use mathlib.Core.List.{List, [], ◌∷◌}
use Prim.Native.Nat.{ℕ, ◌+◌}
use Rattle.text.specs.Quoted.{bytes}
use Rattle.trace.specs.Traces.{is_bit, fits_line, fault_from, fault_of, line_count}
use Rattle.trace.specs.Verdicts.{all_bits}
use Rattle.first_broken.specs.declared.refusal.Cause.{Cause}
use Rattle.first_broken.specs.declared.refusal.Cause.TheVariants.{TraceTooLong, WrongWidth, FlywheelLine, HandleLine, WrongVerdicts}
use Rattle.first_broken.specs.Refusals.{Measurement, refusal_of, is_short, is_width, are_verdicts, is_judged, check_of}
use Rattle.first_broken.specs.Places.{is_rejected, broken_from, broken_of, beginning, cycle_line, line_of, found_as, found_of, Part, part, cut, of_side, broken_part}

-- the traces of the request's page
abbrev F : List ℕ
F = bytes "10\n11\n01\n"

abbrev H : List ℕ
H = bytes "00\n01\n"

abbrev measured : List ℕ → List ℕ → Measurement
measured trace verdicts = record { trace = trace; verdicts = verdicts }

-- width, flywheel trace and verdicts, handle trace and verdicts; what is handed back stands in block 1 or 2, at 100 and on
abbrev checked : ℕ → List ℕ → List ℕ → List ℕ → List ℕ → Result Unit Cause
checked width f fv h hv = check_of width (measured f fv) (measured h hv)

abbrev handed : ℕ → List ℕ → List ℕ → List ℕ → List ℕ → Part
handed width f fv h hv = broken_part (found_of width (measured f fv) (measured h hv)) (part (1, 100) f) (part (2, 100) h)

-- offset and bytes
abbrev flywheel : ℕ → List ℕ → Part
flywheel at line = part (1, 100 + at) line

abbrev handle : ℕ → List ℕ → Part
handle at line = part (2, 100 + at) line

lines :
    (handed 2 F (0 ∷ 0 ∷ 1 ∷ []) H (0 ∷ 0 ∷ []) ≡ flywheel 6 (bytes "01"))
    × (handed 2 F (0 ∷ 1 ∷ 0 ∷ []) H (0 ∷ 1 ∷ []) ≡ flywheel 3 (bytes "11"))
    × (handed 2 F (0 ∷ 0 ∷ 1 ∷ []) H (0 ∷ 1 ∷ []) ≡ handle 3 (bytes "01"))
    × (handed 2 F (0 ∷ 0 ∷ 0 ∷ []) H (1 ∷ 1 ∷ []) ≡ handle 0 (bytes "00"))
    × (handed 2 [] [] H (0 ∷ 1 ∷ []) ≡ handle 3 (bytes "01"))
unfolding check_of is_short is_width all_bits are_verdicts is_judged is_bit fits_line fault_from fault_of line_count is_rejected broken_from broken_of beginning cycle_line line_of found_as found_of cut of_side broken_part
lines = (refl, refl, refl, refl, refl)

-- nothing rejected
none :
    (handed 2 F (0 ∷ 0 ∷ 0 ∷ []) H (0 ∷ 0 ∷ []) ≡ flywheel 0 [])
    × (checked 2 F (0 ∷ 0 ∷ 0 ∷ []) H (0 ∷ 0 ∷ []) ≡ Ok tt)
    × (handed 2 [] [] [] [] ≡ flywheel 0 [])
    × (checked 2 [] [] [] [] ≡ Ok tt)
unfolding check_of is_short is_width all_bits are_verdicts is_judged is_bit fits_line fault_from fault_of line_count is_rejected broken_from broken_of beginning cycle_line line_of found_as found_of cut of_side broken_part
none = (refl, refl, refl, refl)

refused :
    (checked 0 F (0 ∷ 0 ∷ 1 ∷ []) H (0 ∷ 0 ∷ []) ≡ Err WrongWidth)
    × (checked 65 F (0 ∷ 0 ∷ 1 ∷ []) H (0 ∷ 0 ∷ []) ≡ Err WrongWidth)
    × (checked 3 F (0 ∷ 0 ∷ 1 ∷ []) H (0 ∷ 0 ∷ []) ≡ Err (FlywheelLine 1))
    × (checked 2 (bytes "10\n11\n01") (0 ∷ 0 ∷ 1 ∷ []) H (0 ∷ 0 ∷ []) ≡ Err (FlywheelLine 3))
    × (checked 2 F (0 ∷ 0 ∷ 1 ∷ []) (bytes "00\n0x\n") (0 ∷ 0 ∷ []) ≡ Err (HandleLine 2))
    × (checked 2 (bytes "1\n") (0 ∷ []) (bytes "0\n") (0 ∷ []) ≡ Err (FlywheelLine 1))
    × (checked 2 (bytes "10\n1\n") (0 ∷ []) (bytes "0\n") (0 ∷ []) ≡ Err (FlywheelLine 2))
    × (checked 2 F (0 ∷ 0 ∷ []) H (0 ∷ 0 ∷ []) ≡ Err WrongVerdicts)
    × (checked 2 F (0 ∷ 0 ∷ 2 ∷ []) H (0 ∷ 0 ∷ []) ≡ Err WrongVerdicts)
    × (checked 2 F (1 ∷ 0 ∷ 0 ∷ []) H (0 ∷ 0 ∷ 0 ∷ []) ≡ Err WrongVerdicts)
    × (checked 2 [] (0 ∷ []) H (0 ∷ 0 ∷ []) ≡ Err WrongVerdicts)
    × (checked 2 F (0 ∷ 0 ∷ 0 ∷ []) [] (0 ∷ []) ≡ Err WrongVerdicts)
    × (handed 2 F (1 ∷ 0 ∷ 0 ∷ []) H (0 ∷ 0 ∷ 0 ∷ []) ≡ flywheel 0 [])
unfolding check_of is_short is_width all_bits are_verdicts is_judged is_bit fits_line fault_from fault_of line_count is_rejected broken_from broken_of beginning cycle_line line_of found_as found_of cut of_side broken_part
refused = (refl, refl, refl, refl, refl, refl, refl, refl, refl, refl, refl, refl, refl)

numbers :
    (refusal_of TraceTooLong ≡ record { number = 1; line = 0 })
    × (refusal_of WrongWidth ≡ record { number = 26; line = 0 })
    × (refusal_of (FlywheelLine 3) ≡ record { number = 15; line = 3 })
    × (refusal_of (HandleLine 2) ≡ record { number = 15; line = 2 })
    × (refusal_of WrongVerdicts ≡ record { number = 25; line = 0 })
unfolding refusal_of
numbers = (refl, refl, refl, refl, refl)
