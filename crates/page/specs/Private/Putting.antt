-- What a closure that writes a page at the front of a buffer gives. Assumes nothing.
use Rattle.std.specs.Prelude.{◌≡◌, List, ℕ}
use Rattle.std.specs.Fn.{Shared}
use Rattle.std.specs.Borrow.{MutBor}
use Rattle.text.specs.Writer.{Wrote}

-- called at a buffer that holds `before`, it writes this page from the front on
abbrev pub Puts : {F : Type 0} → Shared F (MutBor (List ℕ) × Unit {0}) (ℕ × (MutBor (List ℕ) × Unit {0})) → F → List ℕ → List ℕ → Type 0
Puts g put before page =
    (shown left : MutBor (List ℕ)) (end : ℕ) → shown.now ≡ before → g.post put (shown, tt) (end, (left, tt)) → Wrote before left.now 0 end page
