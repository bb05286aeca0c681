-- What the contract of lay_out claims of a page, by the bytes that stand in its columns, and not by the definitions that
-- lay it out. Assumes nothing.
use Rattle.std.specs.Prelude.{◌≡◌, List, [], ◌∷◌, ◌++◌, ℕ, suc, ◌+◌, ◌-◌, ◌*◌, ◌/◌, ◌%◌, ◌^◌, ◌<◌, ◌≤◌, length, get_or, take, drop, replicate}
use Prim.Native.Char.{code}
use Rattle.rate.specs.Claims.{Division}
use Rattle.session_text.specs.Fields.{right}

-- ---- what may be laid out
-- "letter, digit or `_`"
pub data WordByte (b : ℕ) : Type 0 where
  capital : code "A" ≤ b → b ≤ code "Z" → WordByte b
  small : code "a" ≤ b → b ≤ code "z" → WordByte b
  digit : code "0" ≤ b → b ≤ code "9" → WordByte b
  underscore : b ≡ code "_" → WordByte b

-- a graph name: neither "empty" nor "over 24 bytes", and holds no "byte that is no letter, digit or `_`"
pub record GraphName (name : List ℕ) : Type 0 where
  pub some : 1 ≤ length name
  pub most : length name ≤ 24
  pub words : (k : ℕ) → k < length name → WordByte (get_or name k 0)

-- and no "verdict byte above 1"
pub record Printable (name verdicts : List ℕ) : Type 0 where
  pub named : GraphName name
  pub bits : (k : ℕ) → k < length verdicts → get_or verdicts k 0 ≤ 1

-- ---- fields
-- these bytes are a text in a field of this width, left: blanks fill up
pub record Left (width : ℕ) (text field : List ℕ) : Type 0 where
  pub blanks : ℕ
  pub filled : field ≡ text ++ replicate blanks (code " ")
  pub wide : length field ≡ width

-- these bytes are a number in base ten: one digit, or the digits of another number, not 0, and one digit more
pub data Decimal : ℕ → List ℕ → Type 0 where
  one : (n : ℕ) → n < 10 → Decimal n ((code "0" + n) ∷ [])
  more : (tens last : ℕ) (front : List ℕ) → Decimal tens front → 1 ≤ tens → last < 10 → Decimal (10 * tens + last) (front ++ ((code "0" + last) ∷ []))

-- a number, right
pub record Right (width n : ℕ) (field : List ℕ) : Type 0 where
  pub blanks : ℕ
  pub digits : List ℕ
  pub decimal : Decimal n digits
  pub filled : field ≡ replicate blanks (code " ") ++ digits
  pub wide : length field ≡ width

-- THE STATEMENT OVER WIDTH AND DIGITS, from which all widths come: a number of at most so many digits has its field,
-- and no other number has the same
pub record FieldFits (width n : ℕ) : Type 0 where
  pub field : Right width n (right width n)
  pub told : (m : ℕ) → right width m ≡ right width n → m ≡ n

abbrev pub Widths : Type 0
Widths = (width n : ℕ) → 1 ≤ width → n < 10 ^ width → FieldFits width n

-- ---- the rejected cycles: counted from 1, rising, all of them and no others
pub record Rejected (verdicts rejected : List ℕ) : Type 0 where
  pub rising : (j : ℕ) → suc j < length rejected → get_or rejected j 0 < get_or rejected (suc j) 0
  pub from_one : (j : ℕ) → j < length rejected → 1 ≤ get_or rejected j 0
  pub judged : (j : ℕ) → j < length rejected → get_or verdicts (get_or rejected j 0 - 1) 0 ≡ 1
  pub place : ℕ → ℕ
  pub every : (k : ℕ) → get_or verdicts k 0 ≡ 1 → (place k < length rejected) × (get_or rejected (place k) 0 ≡ k + 1)

-- ---- the page by its columns: every byte of it stands in one of these
-- so many bytes of a line, from a column on, both from 0; each line is 80 bytes and its LF
abbrev pub columns : List ℕ → ℕ → ℕ → ℕ → List ℕ
columns page line from count = take count (drop (81 * line + from) page)

-- blanks up to the end of an 80-byte line, and its LF
abbrev pub rest_blank : ℕ → List ℕ
rest_blank from = replicate (80 - from) (code " ") ++ (code "\n" ∷ [])

-- the last line, at this place of a page with so many cycles and so many of them rejected
pub record LastLine (cycles rejected : ℕ) (page : List ℕ) (line : ℕ) : Type 0 where
  pub count : Right 10 rejected (columns page line 0 10)
  pub whole : ℕ
  pub remainder : ℕ
  pub division : 0 < cycles → Division cycles rejected whole remainder
  pub whole-field : 0 < cycles → Right 7 whole (columns page line 10 7)
  pub remainder-field : 0 < cycles → Right 10 remainder (columns page line 17 10)
  pub no_cycle : cycles ≡ 0 → columns page line 10 17 ≡ replicate 17 (code " ")
  pub rest : columns page line 27 54 ≡ rest_blank 27

pub record InColumns (name verdicts rejected page : List ℕ) : Type 0 where
  pub graph-name : Left 24 name (columns page 0 0 24)
  pub cycles : Right 10 (length verdicts) (columns page 0 24 10)
  pub title-rest : columns page 0 34 47 ≡ rest_blank 34
  -- ten a line
  pub cells : (j : ℕ) → j < length rejected → Right 8 (get_or rejected j 0) (columns page (1 + j / 10) (8 * (j % 10)) 8)
  pub no_cells : (j : ℕ) → length rejected ≤ j → j < 10 * ((length rejected + 9) / 10)
      → columns page (1 + j / 10) (8 * (j % 10)) 8 ≡ replicate 8 (code " ")
  pub line-ends : (i : ℕ) → i < (length rejected + 9) / 10 → columns page (1 + i) 80 1 ≡ code "\n" ∷ []
  pub last_line : LastLine (length verdicts) (length rejected) page (1 + (length rejected + 9) / 10)
  pub lines : length page ≡ 81 * (2 + (length rejected + 9) / 10)

-- ---- "equal pages come only from equal graph names and verdict bytes": no other have the page of these
abbrev pub Tells : List ℕ → List ℕ → List ℕ → Type 0
Tells name verdicts page =
    (name' verdicts' rejected' : List ℕ) → Printable name' verdicts' → Rejected verdicts' rejected' → InColumns name' verdicts' rejected' page
    → (name' ≡ name) × (verdicts' ≡ verdicts)
