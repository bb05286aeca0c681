-- Bytes given as quoted text, so that a definition shows the letters that it means. Assumes nothing.
use mathlib.Core.List as list
use Rattle.std.specs.Prelude.{List, ℕ}
use Prim.Native.Char.{Char, code}
use Prim.Native.String.{String, [], ◌∷◌}

-- the byte of an ASCII character
abbrev pub byte : Char → ℕ
byte c = code c

-- the bytes of an ASCII text
abbrev pub bytes : String → List ℕ
bytes [] = list.[]
bytes (c ∷ s) = list.◌∷◌ (byte c) (bytes s)
