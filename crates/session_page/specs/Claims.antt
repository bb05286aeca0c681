-- What the contract of lay_out claims of its answer and of the lent buffer, without the tests of the definition. Assumes
-- nothing.
use Rattle.std.specs.Prelude.{Result, Err, ◌≡◌, Bool, true, false, List, ◌++◌, ℕ, ◌+◌, ◌*◌, ◌/◌, ◌<◌, ◌≤◌, length, take, drop}
use Rattle.session_text.specs.Claims.{GraphName, Printable, Rejected, InColumns, Tells}
use Rattle.session_page.specs.declared.Cause.{Cause}
use Rattle.session_page.specs.declared.Cause.TheVariants.{TooManyCycles, ShortBuffer, NotPrintable}
use Rattle.session_page.specs.LayOut.{refusal_of}

-- an answer tells whether bytes are a graph name
pub record NameMeans (name : List ℕ) (answer : Bool) : Type 0 where
  pub is : answer ≡ true → GraphName name
  pub is_none : answer ≡ false → GraphName name → ⊥

-- WHAT A CALL SAYS that found `before` in the lent buffer and left `after`. Refuses cause number line: it refuses so, for
-- this cause. Gives n: the page has n bytes.
pub data LaysOut (name verdicts before after : List ℕ) (Refuses : Cause → ℕ → ℕ → Type 0) (Gives : ℕ → Type 0) : Type 0 where
  too_many : Refuses TooManyCycles 1 0 → after ≡ before → 524288 < length verdicts → LaysOut name verdicts before after Refuses Gives
  not_printable : Refuses NotPrintable 22 0 → after ≡ before → length verdicts ≤ 524288 → (Printable name verdicts → ⊥)
      → LaysOut name verdicts before after Refuses Gives
  -- the page would have 81 bytes for each of its lines
  short : (rejected : List ℕ) → Refuses ShortBuffer 12 0 → after ≡ before → length verdicts ≤ 524288 → Printable name verdicts
      → Rejected verdicts rejected → length before < 81 * (2 + (length rejected + 9) / 10)
      → LaysOut name verdicts before after Refuses Gives
  laid_out : (rejected page : List ℕ) → Gives (length page) → after ≡ page ++ drop (length page) before
      → length verdicts ≤ 524288 → Printable name verdicts
      → Rejected verdicts rejected → InColumns name verdicts rejected page → length page ≤ length before
      → LaysOut name verdicts before after Refuses Gives

-- what an answer of lay_out says of a cause, and the number and line in which that is reported
abbrev pub RefusedFor : Result ℕ Cause → Cause → ℕ → ℕ → Type 0
RefusedFor answer cause number line = (answer ≡ Err cause) × (refusal_of cause ≡ record { number = number; line = line })

-- a page that was given tells graph name and verdict bytes
abbrev pub GivenTells : List ℕ → List ℕ → List ℕ → (ℕ → Type 0) → Type 0
GivenTells name verdicts after Gives = (n : ℕ) → Gives n → Tells name verdicts (take n after)
