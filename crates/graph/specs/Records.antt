-- The record of a line: its kind and its fields, parted by one tab each. Assumes nothing.
use Rattle.std.specs.Prelude.{ℕ, zero, suc, Bool, true, false, List, [], ◌∷◌, eqb}
use Rattle.text.specs.Quoted.{byte, bytes}
use Rattle.text.specs.Numbers.{digits}
use Rattle.formula.specs.Classes.{pick, is_name}
use Rattle.assertion.specs.Graph.{Bytes}
use Rattle.assertion.specs.declared.Mode.{Mode}
use Rattle.assertion.specs.declared.Mode.TheVariants.{Terminal, Strong}
use Rattle.graph.specs.Pieces.{split, same}

pub data Record : Type 0 where
  shapeless : Record
  mode : Mode → Record
  signal constant : Bytes → (width : ℕ) → Record
  vertex : Bytes → Record
  edge : (from to : Bytes) (marked : Bool) (antecedent consequent : Bytes) → Record

-- the word of an `M` line
unfoldable pub moded : Bytes → Record
moded w = pick (same w (bytes "terminal")) (mode Terminal) (pick (same w (bytes "strong")) (mode Strong) shapeless)

-- the number from 1 to m whose digits these bytes are; else 0
unfoldable pub number_to : ℕ → Bytes → ℕ
number_to zero w = 0
number_to (suc m) w = pick (same w (digits (suc m))) (suc m) (number_to m w)

-- "a width of 1 to 16 [..] it has no leading zero"; 0 for any other field
unfoldable pub width_of : Bytes → ℕ
width_of w = number_to 16 w

-- `S` or `K`, a name and its width, which is not 0
unfoldable pub sized : Bytes → Bytes → ℕ → Record
sized k n w =
    pick (is_name n)
    (pick (eqb w 0) shapeless
    (pick (same k (bytes "S")) (signal n w) (pick (same k (bytes "K")) (constant n w) shapeless)))
    shapeless

-- `M` and a word; `V` and a name; `S` or `K`, and a name: an absent width means 1
unfoldable pub named : Bytes → Bytes → Record
named k n =
    pick (same k (bytes "M")) (moded n)
    (pick (same k (bytes "V")) (pick (is_name n) (vertex n) shapeless)
    (sized k n 1))

-- the mark: `t` or `-`
unfoldable pub marked : Bytes → Bytes → Bytes → Bytes → Bytes → Record
marked f t m a c = pick (same m (bytes "t")) (edge f t true a c) (pick (same m (bytes "-")) (edge f t false a c) shapeless)

-- `E`, the names of two vertices, a mark, and two formulas, which are judged later
unfoldable pub edged : Bytes → Bytes → Bytes → Bytes → Bytes → Bytes → Record
edged k f t m a c = pick (same k (bytes "E")) (pick (is_name f) (pick (is_name t) (marked f t m a c) shapeless) shapeless) shapeless

-- two fields, three or six
unfoldable pub of_fields : List Bytes → Record
of_fields [] = shapeless
of_fields (k ∷ []) = shapeless
of_fields (k ∷ n ∷ []) = named k n
of_fields (k ∷ n ∷ w ∷ []) = sized k n (width_of w)
of_fields (k ∷ f ∷ t ∷ m ∷ []) = shapeless
of_fields (k ∷ f ∷ t ∷ m ∷ a ∷ []) = shapeless
of_fields (k ∷ f ∷ t ∷ m ∷ a ∷ c ∷ []) = edged k f t m a c
of_fields (k ∷ f ∷ t ∷ m ∷ a ∷ c ∷ x ∷ xs) = shapeless

unfoldable pub record_of : Bytes → Record
record_of line = of_fields (split (byte "\t") line)
