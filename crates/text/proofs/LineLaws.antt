-- Where lines end. Assumes nothing.
use mathlib.Core.Path.{◌≡◌, sym, ◌∙◌}
use mathlib.Core.List.{List}
use Prim.Native.Nat.{ℕ, ◌+◌, ◌≤◌, ◌<◌}
use native.Mathlib.Nat.{add-zero, add-suc, suc-add}
use native.Mathlib.Numerals.{add-one}
use borrow.Author.Tests.{lt-ltb, le-ltb, eq-eqb, ne_eqb}
use lib.ListN.{length, get_or, drop_of_length-le}
use lib.Seq.{drop-cons}
use Rattle.text.specs.Lines.{to_lf, line_end, line_at}
use Rattle.text.specs.declared.Line.TheVariants.{Ended, Unended, End}

-- ---- one step

pub end_here : (s : List ℕ) (p : ℕ) → p < length s → get_or s p 0 ≡ 10 → line_end s p ≡ p
unfolding line_end to_lf
end_here s p h e = rw (drop-cons s p 0 h, eq-eqb (get_or s p 0) 10 e, to_lf) (add-zero p)

pub end_later : (s : List ℕ) (p : ℕ) → p < length s → (get_or s p 0 ≡ 10 → ⊥) → line_end s p ≡ line_end s (p + 1)
unfolding line_end to_lf
end_later s p h e = rw (drop-cons s p 0 h, ne_eqb (get_or s p 0) 10 e, to_lf, add-one) (add-suc p _ ∙ sym (suc-add p _))

pub end_end : (s : List ℕ) (p : ℕ) → length s ≤ p → line_end s p ≡ p
unfolding line_end to_lf
end_end s p h = rw (drop_of_length-le s h) (add-zero p)

pub at_end : (s : List ℕ) (p : ℕ) → length s ≤ p → line_at s p ≡ End
unfolding line_at
at_end s p h = rw (le-ltb p (length s) h, line_at)

pub at_ended : (s : List ℕ) (p : ℕ) → p < length s → line_end s p < length s → line_at s p ≡ Ended (line_end s p)
unfolding line_at
at_ended s p h g = rw (lt-ltb p (length s) h, lt-ltb (line_end s p) (length s) g, line_at)

pub at_unended : (s : List ℕ) (p : ℕ) → p < length s → length s ≤ line_end s p → line_at s p ≡ Unended
unfolding line_at
at_unended s p h g = rw (lt-ltb p (length s) h, le-ltb (line_end s p) (length s) g, line_at)
