-- Verdict bytes: one for each cycle of a trace, 0 where it was accepted, 1 where it was rejected. Assumes nothing.
use Rattle.std.specs.Prelude.{Bool, true, ◌&&◌, List, [], ◌∷◌, ℕ, leb}

-- no byte above 1
unfoldable pub all_bits : List ℕ → Bool
all_bits [] = true
all_bits (b ∷ bytes) = leb b 1 && all_bits bytes
