-- The shape of an AIGER line at a place of a text: so many numbers, parted by single blanks, and an LF.
-- Assumes nothing.
use Rattle.std.specs.Prelude.{Option, Some, None, cond, List, [], ◌∷◌, ℕ, zero, suc, ◌+◌, eqb, get_or}
use Rattle.text.specs.Numbers.{read_number}

-- the numbers of a line and the place after its LF; or another shape
pub data Fields : Type 0 where
  wrong : Fields
  fields : List ℕ → ℕ → Fields

-- what is made of a number and the place after it
unfoldable pub on_number : {A : Type 0} → Option (ℕ × ℕ) → (ℕ → ℕ → A) → A → A
on_number (Some (v, q)) f d = f v q
on_number None f d = d

-- a number at p and the byte b after it: the number and the place after that byte
unfoldable pub number_then : List ℕ → ℕ → ℕ → Option (ℕ × ℕ)
number_then s p b = on_number (read_number s p) (λ v q. cond (eqb (get_or s q 0) b) (Some (v, q + 1)) None) None

unfoldable pub before : ℕ → Fields → Fields
before v wrong = wrong
before v (fields vs q) = fields (v ∷ vs) q

-- suc n numbers at p
unfoldable pub fields_of : List ℕ → ℕ → ℕ → Fields
fields_of s zero p = on_number (number_then s p 10) (λ v q. fields (v ∷ []) q) wrong
fields_of s (suc n) p = on_number (number_then s p 32) (λ v q. before v (fields_of s n q)) wrong

-- suc n numbers at p, or one more; past the numbers there are zeros, so that a reset that is left out is 0
unfoldable pub either_of : List ℕ → ℕ → ℕ → Fields
either_of s n p = or_else (fields_of s n p)
  where
    or_else : Fields → Fields
    or_else wrong = fields_of s (suc n) p
    or_else (fields vs q) = fields vs q
