-- The limits of a header and of a latch, test by test. Assumes nothing.
use mathlib.Core.Path.{◌≡◌, refl, sym}
use mathlib.Core.Bool.{Bool, true, false, ◌&&◌, and-false}
use mathlib.Core.List.{[], ◌∷◌}
use mathlib.Core.Logic.{◌⊎◌, inl, inr}
use Prim.Native.Nat.{ℕ, ◌+◌, ◌≤◌, ◌<◌}
use native.Mathlib.Nat.{add-zero}
use native.Mathlib.Omega.{arith}
use native.Mathlib.Decide.{dec_lt}
use borrow.Author.Tests.{le-leb, lt-leb, eq-eqb, ne_eqb, lt-ltb, le-ltb}
use lib.Dec.{eqb}
use Rattle.netlist.specs.Valid.{header_ok}
use Rattle.netlist.proofs.ValidLaws.{Header, header}
use Rattle.aiger_lines.specs.declared.Fault.TheVariants.{OutOfLimits}
use Rattle.aiger_lines.specs.Lines.{row, fault, latch_says}

module _ (m i l o a : ℕ) where
  pub no_header : (Header m i l o a → ⊥) → header_ok m i l o a ≡ false
  no_header refuse = go (header_ok m i l o a) refl
    where
      go : (t : Bool) → header_ok m i l o a ≡ t → header_ok m i l o a ≡ false
      go false e = e
      go true e = absurd (refuse (header m i l o a e))

  and-true : (t : Bool) → (t && true) ≡ t
  and-true true = refl
  and-true false = refl

  -- the sum is the last test
  pub header-sum : m ≤ 4095 → 1 ≤ i → i ≤ 64 → 1 ≤ o → o ≤ 2 → header_ok m i l o a ≡ eqb m (i + l + a)
  unfolding header_ok
  header-sum h1 h2 h3 h4 h5 = rw (le-leb m 4095 h1, le-leb 1 i h2, le-leb i 64 h3, le-leb 1 o h4, le-leb o 2 h5) (and-true (eqb m (i + l + a)))

module _ (last lit free next reset q : ℕ) where
  pub says_past : last < next → fault OutOfLimits ≡ latch_says last lit free next reset q
  unfolding latch_says
  says_past h = rw (lt-leb next last h)

  module _ (fits : next ≤ last) where
    pub says_plain : reset ≤ 1 → row (next ∷ reset ∷ []) free q ≡ latch_says last lit free next reset q
    unfolding latch_says
    says_plain h = rw (le-leb next last fits, le-leb reset 1 h, add-zero)

    pub says_other : 1 < reset → (reset ≡ lit → ⊥) → fault OutOfLimits ≡ latch_says last lit free next reset q
    unfolding latch_says
    says_other h n = rw (le-leb next last fits, lt-leb reset 1 h, ne_eqb reset lit n)

    pub says-full : 1 < reset → 6 ≤ free → fault OutOfLimits ≡ latch_says last lit free next reset q
    unfolding latch_says
    says-full h n = rw (le-leb next last fits, lt-leb reset 1 h, le-ltb free 6 n, and-false (eqb reset lit))

    pub says-own : 1 < reset → reset ≡ lit → free < 6 → row (next ∷ lit ∷ []) (free + 1) q ≡ latch_says last lit free next reset q
    unfolding latch_says
    says-own h e n = rw (le-leb next last fits, lt-leb reset 1 h, eq-eqb reset lit e, lt-ltb free 6 n, e)

  -- numbers that are no latch's
  pub says_none : (last < next) ⊎ ((1 < reset) × ((reset ≡ lit → ⊥) ⊎ (6 ≤ free))) → latch_says last lit free next reset q ≡ fault OutOfLimits
  says_none h = sym (go h)
    where
      past : (1 < reset) × ((reset ≡ lit → ⊥) ⊎ (6 ≤ free)) → next ≤ last → fault OutOfLimits ≡ latch_says last lit free next reset q
      past (k, inl n) l = says_other l k n
      past (k, inr n) l = says-full l k n

      go : (last < next) ⊎ ((1 < reset) × ((reset ≡ lit → ⊥) ⊎ (6 ≤ free))) → fault OutOfLimits ≡ latch_says last lit free next reset q
      go (inl k) = says_past k
      go (inr k) = elim (dec_lt last next) [ yes l ↦ says_past l | no l ↦ past k (omega arith) ]
