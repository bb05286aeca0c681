-- The fields of a session page (document 02, No. 9): so many bytes each, "blanks fill up". Assumes nothing.
use Rattle.std.specs.Prelude.{List, ◌++◌, ℕ, ◌-◌, length, replicate}
use Rattle.text.specs.Quoted.{byte, bytes}
use Rattle.text.specs.Numbers.{digits}

abbrev pub blanks : ℕ → List ℕ
blanks n = replicate n (byte " ")

-- a text in a field of some width, "left"
unfoldable pub left : ℕ → List ℕ → List ℕ
left width s = s ++ blanks (width - length s)

-- a number in a field of some width, "right": "one statement over width and digits", for every number of the page
unfoldable pub right : ℕ → ℕ → List ℕ
right width n = blanks (width - length (digits n)) ++ digits n

-- "80-byte lines, the LF not counted"
unfoldable pub row : List ℕ → List ℕ
row s = left 80 s ++ bytes "\n"
