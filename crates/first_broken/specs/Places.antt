-- Which measurement broke first, and the part of its trace that is handed back (document 02, No. 12). Cycles are counted
-- from 0 here. Assumes nothing.
use Rattle.std.specs.Prelude.{Option, Some, None, Result, Ok, Err, Bool, cond, List, ℕ, zero, suc, ◌+◌, ◌*◌, max, eqb, length, get_or, take, drop}
use Rattle.first_broken.specs.declared.refusal.Cause.{Cause}
use Rattle.first_broken.specs.declared.places.Side.{Side}
use Rattle.first_broken.specs.declared.places.Side.TheVariants.{Flywheel, Handle}
use Rattle.first_broken.specs.declared.places.Found.{Found}
use Rattle.first_broken.specs.Refusals.{Measurement, check_of}

-- ---- the earliest rejected cycle
-- the byte of cycle n is 1; there is no cycle past the end
unfoldable pub is_rejected : List ℕ → ℕ → Bool
is_rejected verdicts n = eqb (get_or verdicts n 0) 1

-- "whichever trace was rejected at the earlier cycle; at a tie, the flywheel's": among `left` cycles, n and those after it
unfoldable pub broken_from : ℕ → ℕ → List ℕ → List ℕ → Option (Side × ℕ)
broken_from zero n flywheel handle = None
broken_from (suc left) n flywheel handle =
    cond (is_rejected flywheel n) (Some (Flywheel, n))
    (cond (is_rejected handle n) (Some (Handle, n))
    (broken_from left (suc n) flywheel handle))

-- among all cycles: the two lists "need not be equally long"
unfoldable pub broken_of : List ℕ → List ℕ → Option (Side × ℕ)
broken_of flywheel handle = broken_from (max (length flywheel) (length handle)) 0 flywheel handle

-- ---- its line, by the trace in which it stands, the place where it begins and its length
-- "the empty beginning of the flywheel trace"
unfoldable pub beginning : Found
beginning = record { side = Flywheel; at = 0; length = 0 }

-- the line of cycle n: it "excludes its LF", and n lines, each with its LF, stand before it
unfoldable pub cycle_line : Side → ℕ → ℕ → Found
cycle_line side n width = record { side = side; at = n * (width + 1); length = width }

unfoldable pub line_of : ℕ → Option (Side × ℕ) → Found
line_of width None = beginning
line_of width (Some (side, n)) = cycle_line side n width

-- "that same empty beginning where the first refuses"
unfoldable pub found_as : Result Unit Cause → ℕ → Option (Side × ℕ) → Found
found_as (Ok tt) width broken = line_of width broken
found_as (Err cause) width broken = beginning

unfoldable pub found_of : ℕ → Measurement → Measurement → Found
found_of width flywheel handle = found_as (check_of width flywheel handle) width (broken_of flywheel.verdicts handle.verdicts)

-- ---- the part that is handed back
-- lent bytes: the block of memory in which they stand, their place in it, and the bytes themselves
pub record Part : Type 0 where
  pub block : ℕ
  pub offset : ℕ
  pub bytes : List ℕ

abbrev pub part : ℕ × ℕ → List ℕ → Part
part place bytes = record { block = place.0; offset = place.1; bytes = bytes }

-- so many of them from a place on
unfoldable pub cut : Part → ℕ → ℕ → Part
cut lent at count = record { block = lent.block; offset = lent.offset + at; bytes = take count (drop at lent.bytes) }

-- of the flywheel or the handle trace
unfoldable pub of_side : {A : Type 0} → Side → A → A → A
of_side Flywheel flywheel handle = flywheel
of_side Handle flywheel handle = handle

unfoldable pub broken_part : Found → Part → Part → Part
broken_part found flywheel handle = cut (of_side found.side flywheel handle) found.at found.length
