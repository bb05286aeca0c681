-- Text written into a lent buffer. Assumes nothing.
use Rattle.std.specs.Prelude.{◌≡◌, List, [], ◌++◌, ℕ, zero, suc, ◌+◌, ◌^◌, ◌≤◌, min, max, length}
use Rattle.std.proofs.lemmas.List.Edits.{sets}
use Rattle.text.specs.declared.writer.Writer.{Writer}

-- no slice is longer
abbrev pub top : ℕ
top = 2 ^ 63

-- n places after `at`, but none after `top`
abbrev pub past : ℕ → ℕ → ℕ
past at n = max at (min (at + n) top)

-- What is promised of text that is stored: `before` became `after`, with the bytes of the text stored one by
-- one from `at` on, but those past the buffer's end, and every other byte as it was; `next` is the
-- place after the text. (`sets` of lib.Seq stores a list from a place on and keeps the length.)
-- `small` holds of every slice, and lets texts be stored one after another.
pub record Wrote (before after : List ℕ) (at next : ℕ) (text : List ℕ) : Type 0 where
  pub small : length before ≤ top
  pub place : next ≡ past at (length text)
  pub bytes : after ≡ sets before at text

-- What a `Writer` promises of an append: it goes on in the same buffer, in which the text now stands, from the one place to
-- the other.
pub record Writes (before after : Writer) (text : List ℕ) : Type 0 where
  pub same : after.out.ghost_name ≡ before.out.ghost_name
  pub wrote : Wrote before.out.now after.out.now before.at after.at text

-- the texts `f 0`, `f 1`, .., `f (n - 1)`, one after the other
abbrev pub joined : (ℕ → List ℕ) → ℕ → List ℕ
joined f zero = []
joined f (suc n) = joined f n ++ f n
