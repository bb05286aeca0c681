-- Lines of a text. A line ends with its LF, byte 10. Assumes nothing.
use Rattle.std.specs.Prelude.{◌≡◌, true, false, List, [], ◌∷◌, ◌++◌, ℕ, suc, ◌+◌, eqb, ltb, length, drop}
use Prim.Native.Char.{code}
use Rattle.text.specs.declared.Line.{Line}
use Rattle.text.specs.declared.Line.TheVariants.{Ended, Unended, End}

-- how many bytes stand before the first LF
unfoldable pub to_lf : List ℕ → ℕ
to_lf [] = 0
to_lf (b ∷ s) = elim (eqb b 10) [ true ↦ 0 | false ↦ suc (to_lf s) ]

-- the place of the first LF at or after p; the text's length where there is none, or p where it is past that
unfoldable pub line_end : List ℕ → ℕ → ℕ
line_end s p = p + to_lf (drop p s)

-- the line that starts at p: where its LF stands, or that it has none, or that no line starts there
unfoldable pub line_at : List ℕ → ℕ → Line
line_at s p =
    elim (ltb p (length s)) [ true ↦ elim (ltb (line_end s p) (length s)) [ true ↦ Ended (line_end s p) | false ↦ Unended ] | false ↦ End ]

-- a line may start after these bytes: there are none, or the last is LF
pub data StartsLine (before : List ℕ) : Type 0 where
  first : before ≡ [] → StartsLine before
  next : (lines : List ℕ) → before ≡ lines ++ (code "\n" ∷ []) → StartsLine before
