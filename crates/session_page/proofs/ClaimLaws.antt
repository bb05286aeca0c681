-- What is claimed of one answer is claimed of another that says the same. Assumes nothing.
use mathlib.Core.List.{List}
use Prim.Native.Nat.{ℕ}
use lib.ListN.{length}
use Rattle.session_page.specs.declared.Cause.{Cause}
use Rattle.session_page.specs.declared.Cause.TheVariants.{TooManyCycles, ShortBuffer, NotPrintable}
use Rattle.session_page.specs.Claims.{LaysOut}
use Rattle.session_page.specs.Claims.LaysOut.{too_many, not_printable, short, laid_out}

module _ (name verdicts before after : List ℕ) (R S : Cause → ℕ → ℕ → Type 0) (G H : ℕ → Type 0)
    (refuses : (cause : Cause) (number line : ℕ) → R cause number line → S cause number line) (gives : (n : ℕ) → G n → H n) where
  pub lays_told : LaysOut name verdicts before after R G → LaysOut name verdicts before after S H
  lays_told (too_many r k l) = too_many (refuses TooManyCycles 1 0 r) k l
  lays_told (not_printable r k l p) = not_printable (refuses NotPrintable 22 0 r) k l p
  lays_told (short rejected r k l p j s) = short rejected (refuses ShortBuffer 12 0 r) k l p j s
  lays_told (laid_out rejected page g k l p j c r) = laid_out rejected page (gives (length page) g) k l p j c r
