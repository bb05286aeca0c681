-- A text cut at a byte: at LF into its lines, a line at tabs into its fields; and a name looked up: a vertex
-- among vertices, and a signal or constant among those declared. Assumes nothing.
use Rattle.std.specs.Prelude.{ℕ, suc, ◌+◌, Bool, true, false, Option, Some, None, List, [], ◌∷◌, eqb, ltb, length, take, drop}
use Rattle.assertion.specs.Graph.{Bytes, Name}
use Rattle.graph.specs.declared.FoundName.{FoundName}

-- a byte in front of the first piece
unfoldable pub onto : ℕ → List Bytes → List Bytes
onto c [] = (c ∷ []) ∷ []
onto c (p ∷ ps) = (c ∷ p) ∷ ps

-- the pieces between the bytes b: one more than there are such bytes
unfoldable pub split : ℕ → Bytes → List Bytes
split b [] = [] ∷ []
split b (c ∷ s) = elim (eqb c b) [ true ↦ [] ∷ split b s | false ↦ onto c (split b s) ]

-- how many bytes stand before the first b
unfoldable pub up_to : ℕ → Bytes → ℕ
up_to b [] = 0
up_to b (c ∷ s) = elim (eqb c b) [ true ↦ 0 | false ↦ suc (up_to b s) ]

-- the place of the first b at or after p, or the end
unfoldable pub end_at : ℕ → Bytes → ℕ → ℕ
end_at b s p = p + up_to b (drop p s)

-- the bytes from p on, up to the first b
unfoldable pub piece_at : ℕ → Bytes → ℕ → Bytes
piece_at b s p = take (up_to b (drop p s)) (drop p s)

-- two lists of bytes are the same
unfoldable pub same : Bytes → Bytes → Bool
same [] [] = true
same [] (d ∷ t) = false
same (c ∷ s) [] = false
same (c ∷ s) (d ∷ t) = elim (eqb c d) [ true ↦ same s t | false ↦ false ]

-- the place of a vertex in a list of vertices, from 0; the list's length where it is not there
unfoldable pub place_of : Bytes → List Bytes → ℕ
place_of n [] = 0
place_of n (m ∷ ms) = elim (same n m) [ true ↦ 0 | false ↦ suc (place_of n ms) ]

-- what looking a vertex up answers: its place, where it is there
unfoldable pub look_up : Bytes → List Bytes → Option ℕ
look_up n ms = elim (ltb (place_of n ms) (length ms)) [ true ↦ Some (place_of n ms) | false ↦ None ]

-- a signal or a constant: its name, and the run of bits that it stands for, by the first place and the width
pub record Declared : Type 0 where
  pub name : Bytes
  pub place : ℕ
  pub width : ℕ

-- names one after another, the first bit of the first at place p: each run starts where the one before it ends
unfoldable pub placed : ℕ → List Name → List Declared
placed p [] = []
placed p (x ∷ xs) = record { name = x.name; place = p; width = x.width } ∷ placed (p + x.width) xs

-- "Whoever looks up a name now receives its first place and its width"
unfoldable pub look_up_name : Bytes → List Declared → Option FoundName
look_up_name n [] = None
look_up_name n (d ∷ ds) = elim (same n d.name) [ true ↦ Some (record { place = d.place; width = d.width }) | false ↦ look_up_name n ds ]

-- the place and the width that it receives; 0 for a name that is not there
abbrev pub place_in : Option FoundName → ℕ
place_in None = 0
place_in (Some found) = found.place

abbrev pub width_in : Option FoundName → ℕ
width_in None = 0
width_in (Some found) = found.width
