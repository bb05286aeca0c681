-- What the private readers promise of their answers and of the words they store. Assumes nothing.
use Rattle.std.specs.Prelude.{ℕ, ◌+◌, ◌-◌, ◌≤◌, ◌<◌, max, min, ◌≡◌, Option, Some, None, List, eqb, length, drop, get_or}
use Rattle.std.proofs.lemmas.List.Edits.{sets}
use Rattle.text.specs.Numbers.{leading_digits, value_from}
use Rattle.formula.specs.Classes.{pick}
use Rattle.formula.specs.Grammar.{Got, failed, got, is_index, depth_of}
use Rattle.formula.specs.Reading.{postfix}
use Rattle.formula.specs.declared.names.Index.{Index}
use Rattle.formula.specs.declared.names.Word.{Word}
use Rattle.formula.specs.declared.readers.Read.{Read}

-- before a reader: `at` is a place of `s`, which is short, and the words before n and those to come have room
pub record Room (s : List ℕ) (at : ℕ) (out : List ℕ) (n : ℕ) : Type 0 where
  pub in_text : at ≤ length s
  pub short : length s ≤ 255
  pub fewer : n ≤ at
  pub room : length s ≤ length out

-- a form read from `at`, its words stored from n on, is of one byte at least, ends within the text, and
-- has no more words and no more depth than bytes
abbrev pub Bounds : ℕ → ℕ → ℕ → Option Read → Type 0
Bounds len at n None = Unit
Bounds len at n (Some r) = (at < r.next) × (r.next ≤ len) × (r.count + at ≤ r.next + n) × (r.depth + at ≤ r.next)

-- the same of a form that begins with one that has been read
abbrev pub RestBounds : ℕ → Read → Option Read → Type 0
RestBounds len left None = Unit
RestBounds len left (Some r) = (left.next ≤ r.next) × (r.next ≤ len) × (r.count + left.next ≤ r.next + left.count) × (r.depth ≤ max left.depth (r.next - left.next))

abbrev pub deeper_of : Read → Read
deeper_of r = record { next = r.next; count = r.count; depth = r.depth + 1 }

abbrev pub beside_of : Read → ℕ → Read
beside_of r other = record { next = r.next; count = r.count; depth = max other r.depth }

abbrev pub closed_of : List ℕ → Read → Option Read
closed_of s r = pick (eqb (get_or s r.next 0) 41) (Some (record { next = r.next + 1; count = r.count; depth = r.depth })) None

abbrev pub counted_of : Read → Read
counted_of r = record { next = r.next; count = r.count + 1; depth = r.depth }

-- a name and what belongs to it are one word
abbrev pub word_read : Got → Option Word
word_read failed = None
word_read (got e to) = Some (record { next = to; word = get_or (postfix e) 0 0 })

-- the digits from `at` on, where they are an index: their number, cut at 16, and the place after them
abbrev pub index_at : List ℕ → ℕ → Option Index
index_at s at =
    let ds = leading_digits (drop at s) in
    pick (is_index ds) (Some (record { value = min (value_from 0 ds) 16; next = at + length ds })) None

-- the answer fits what the grammar gives, and the buffer is as it was before, with the words of the form
-- stored from n on
unfoldable pub Reads : List ℕ → ℕ → List ℕ → Option Read → Got → Type 0
Reads before n after r failed = r ≡ None
Reads before n after r (got e to) = (r ≡ Some (record { next = to; count = n + length (postfix e); depth = depth_of e })) × (after ≡ sets before n (postfix e))
