-- What the contracts of check, find and first_broken claim of their answers, without the tests and the search of the
-- definitions. Assumes nothing.
use Rattle.std.specs.Prelude.{Result, Ok, Err, ◌≡◌, ◌⊎◌, List, [], ◌∷◌, ◌++◌, ℕ, suc, ◌+◌, ◌<◌, ◌≤◌, length, get_or}
use Rattle.trace.specs.Claims.{Cycles, lines_of, FirstWrong}
use Rattle.first_broken.specs.declared.refusal.Cause.{Cause}
use Rattle.first_broken.specs.declared.refusal.Cause.TheVariants.{TraceTooLong, WrongWidth, FlywheelLine, HandleLine, WrongVerdicts}
use Rattle.first_broken.specs.declared.places.Side.{Side}
use Rattle.first_broken.specs.declared.places.Found.{Found}
use Rattle.first_broken.specs.Refusals.{Measurement, refusal_of, check_of}

-- ---- the check
-- neither trace is over 1,048,576 bytes
pub record Short (flywheel handle : Measurement) : Type 0 where
  pub flywheel_short : length flywheel.trace ≤ 1048576
  pub handle_short : length handle.trace ≤ 1048576

-- and the width is one of 1 to 64
pub record Sized (width : ℕ) (flywheel handle : Measurement) : Type 0 where
  pub short : Short flywheel handle
  pub some : 1 ≤ width
  pub most : width ≤ 64

-- a trace is the lines of these cycles, each of the width
pub record IsTrace (width : ℕ) (trace : List ℕ) (cycles : List (List ℕ)) : Type 0 where
  pub lines : trace ≡ lines_of cycles
  pub right : Cycles width cycles

-- one verdict byte for each of these cycles, none above 1
pub record Judged (cycles : List (List ℕ)) (verdicts : List ℕ) : Type 0 where
  pub count : length verdicts ≡ length cycles
  pub bits : (k : ℕ) → get_or verdicts k 0 ≤ 1

-- WHAT THE CHECK SAYS. Refuses cause number line: it refuses so, for this cause. Passes: it refuses nothing.
-- Whatever is given, one of these cases can be and no other (crates/first_broken/proofs/ExactLaws.antt).
pub data CheckMeans (width : ℕ) (flywheel handle : Measurement) (Refuses : Cause → ℕ → ℕ → Type 0) (Passes : Type 0) : Type 0 where
  too_long : Refuses TraceTooLong 1 0 → (1048576 < length flywheel.trace) ⊎ (1048576 < length handle.trace)
      → CheckMeans width flywheel handle Refuses Passes
  wrong-width : Refuses WrongWidth 26 0 → Short flywheel handle → (width ≡ 0) ⊎ (64 < width) → CheckMeans width flywheel handle Refuses Passes
  -- the first wrong line of the flywheel trace, counted from 1
  flywheel_line : (k : ℕ) → Refuses (FlywheelLine (suc k)) 15 (suc k) → Sized width flywheel handle → FirstWrong width k flywheel.trace
      → CheckMeans width flywheel handle Refuses Passes
  -- of the handle trace, where the flywheel trace has none
  handle_line : (k : ℕ) (cs : List (List ℕ)) → Refuses (HandleLine (suc k)) 15 (suc k) → Sized width flywheel handle
      → IsTrace width flywheel.trace cs → FirstWrong width k handle.trace
      → CheckMeans width flywheel handle Refuses Passes
  wrong-verdicts : (cs ds : List (List ℕ)) → Refuses WrongVerdicts 25 0 → Sized width flywheel handle
      → IsTrace width flywheel.trace cs → IsTrace width handle.trace ds
      → (Judged cs flywheel.verdicts → Judged ds handle.verdicts → ⊥)
      → CheckMeans width flywheel handle Refuses Passes
  fine : (cs ds : List (List ℕ)) → Passes → Sized width flywheel handle
      → IsTrace width flywheel.trace cs → IsTrace width handle.trace ds
      → Judged cs flywheel.verdicts → Judged ds handle.verdicts
      → CheckMeans width flywheel handle Refuses Passes

-- what an answer of check says of a cause, and the number and line in which that is reported
abbrev pub RefusedFor : Result Unit Cause → Cause → ℕ → ℕ → Type 0
RefusedFor answer cause number line = (answer ≡ Err cause) × (refusal_of cause ≡ record { number = number; line = line })

-- ---- the part that is handed back
-- cycle n of a trace, from 0, is this line, without its LF, and it stands behind the lines of n cycles
pub record LineAt (width n : ℕ) (trace : List ℕ) (at : ℕ) (line : List ℕ) : Type 0 where
  pub before : List (List ℕ)
  pub after : List (List ℕ)
  pub whole : IsTrace width trace (before ++ (line ∷ after))
  pub count : length before ≡ n
  pub place : length (lines_of before) ≡ at

-- both measurements accept cycle k, or have none
abbrev pub Accepts : Measurement → Measurement → ℕ → Type 0
Accepts flywheel handle k = (get_or flywheel.verdicts k 0 ≡ 0) × (get_or handle.verdicts k 0 ≡ 0)

-- WHAT IS HANDED BACK. OfFlywheel at line: the answer is these bytes, at this place of the flywheel trace; OfHandle: of
-- the handle trace. Whatever is given, one of these cases can be and no other, with one place and one line (as above).
pub data BrokenFirst (width : ℕ) (flywheel handle : Measurement) (OfFlywheel OfHandle : ℕ → List ℕ → Type 0) : Type 0 where
  -- the flywheel's cycle n was rejected, and none before it in either
  flywheel_broke : (n at : ℕ) (line : List ℕ) → OfFlywheel at line → LineAt width n flywheel.trace at line
      → check_of width flywheel handle ≡ Ok tt
      → get_or flywheel.verdicts n 0 ≡ 1 → ((k : ℕ) → k < n → Accepts flywheel handle k)
      → BrokenFirst width flywheel handle OfFlywheel OfHandle
  -- the handle's cycle n was rejected, the flywheel's was not, and none before it in either
  handle_broke : (n at : ℕ) (line : List ℕ) → OfHandle at line → LineAt width n handle.trace at line
      → check_of width flywheel handle ≡ Ok tt
      → get_or handle.verdicts n 0 ≡ 1 → get_or flywheel.verdicts n 0 ≡ 0 → ((k : ℕ) → k < n → Accepts flywheel handle k)
      → BrokenFirst width flywheel handle OfFlywheel OfHandle
  -- no cycle was rejected: the empty beginning of the flywheel trace
  neither_broke : OfFlywheel 0 [] → check_of width flywheel handle ≡ Ok tt → ((k : ℕ) → Accepts flywheel handle k)
      → BrokenFirst width flywheel handle OfFlywheel OfHandle
  -- the check refuses: the same
  refused : (cause : Cause) → OfFlywheel 0 [] → check_of width flywheel handle ≡ Err cause
      → BrokenFirst width flywheel handle OfFlywheel OfHandle

-- find's answer tells place and length
abbrev pub FoundIn : Found → Side → ℕ → List ℕ → Type 0
FoundIn found side at line = found ≡ record { side = side; at = at; length = length line }

-- first_broken's answer is these bytes, and stands in the trace's own memory: a slice stands in a block, at an offset
pub record StandsIn (answer : ℕ × ℕ) (bytes : List ℕ) (trace : ℕ × ℕ) (at : ℕ) (line : List ℕ) : Type 0 where
  pub block : answer.0 ≡ trace.0
  pub offset : answer.1 ≡ trace.1 + at
  pub same : bytes ≡ line
