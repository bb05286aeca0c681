-- What the program needs of a sheet: of an input no more need be read than tells that it is too long. Assumes nothing.
use mathlib.Core.Path.{◌≡◌, ap, sym, ◌∙◌}
use mathlib.Core.List.{List}
use Prim.Native.Nat.{ℕ, ◌≤◌}
use native.Mathlib.Decide.{dec_le}
use native.Mathlib.Omega.{arith}
use lib.ListN.{length, take, length-take}
use lib.Seq.{take_all}
use Rattle.sheet_page.specs.Sheets.{sheet_text}
use Rattle.sheet_page.proofs.SheetLaws.{long-sheet}

-- the first 65,537 bytes of an input give its page
pub sheet-cut : (s : List ℕ) → sheet_text (take 65537 s) ≡ sheet_text s
sheet-cut s = go (dec_le (length s) 65537)
  where
    go : Dec (length s ≤ 65537) → sheet_text (take 65537 s) ≡ sheet_text s
    go (yes h) = ap sheet_text (take_all 65537 s h)
    go (no h) = long-sheet (take 65537 s) (omega (arith, length-take 65537 s)) ∙ sym (long-sheet s (omega arith))
