-- What the contract of graph_length claims of the two parts of the monitor program's input, by their bytes, and not by the
-- definition that counts them. Assumes nothing.
use Rattle.std.specs.Prelude.{◌≡◌, List, [], ◌∷◌, ◌++◌, ℕ, ◌≤◌, length}
use Prim.Native.Char.{code}
use Rattle.text.specs.Lines.{StartsLine}

-- after these bytes stands a line `T`, with its LF, and after that the others
pub record MarkedAt (rest before after : List ℕ) : Type 0 where
  pub bytes : rest ≡ before ++ (code "T" ∷ (code "\n" ∷ after))
  pub starts : StartsLine before

-- THE PARTS of the monitor's input
pub data Parts (rest graph trace : List ℕ) : Type 0 where
  -- what stands before the first line `T`, and all that follows it, be it another `T`
  cut : MarkedAt rest graph trace → ((before after : List ℕ) → MarkedAt rest before after → length graph ≤ length before) → Parts rest graph trace
  -- no line `T`, as a last `T` without its LF is none: all is graph, and the trace is empty
  none : ((before after : List ℕ) → MarkedAt rest before after → ⊥) → graph ≡ rest → trace ≡ [] → Parts rest graph trace
