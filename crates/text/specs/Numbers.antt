-- Numbers in decimal, written and read. Assumes nothing.
use Rattle.std.specs.Prelude.{◌≡◌, Option, Some, None, Bool, true, false, cond, not, ◌&&◌, ◌||◌, List, [], ◌∷◌, ◌++◌, ℕ, zero, suc, ◌+◌, ◌-◌, ◌*◌, ◌/◌, ◌%◌, ◌≤◌, eqb, leb, ltb, length, drop, get_or}

-- n in base ten, where suc k digits are enough
unfoldable pub digits_of : ℕ → ℕ → List ℕ
digits_of zero n = (48 + n % 10) ∷ []
digits_of (suc k) n = elim (ltb n 10) [ true ↦ (48 + n % 10) ∷ [] | false ↦ digits_of k (n / 10) ++ (48 + n % 10) ∷ [] ]

-- n in base ten, without leading zeros: n has at most n + 1 digits
unfoldable pub digits : ℕ → List ℕ
digits n = digits_of n n

-- a byte `0` to `9`
unfoldable pub is_digit : ℕ → Bool
is_digit b = leb 48 b && leb b 57

-- the digits at the front of a text, up to the first byte that is none
unfoldable pub leading_digits : List ℕ → List ℕ
leading_digits [] = []
leading_digits (b ∷ s) = elim (is_digit b) [ true ↦ b ∷ leading_digits s | false ↦ [] ]

-- the number of digits ds, read after those that gave v
unfoldable pub value_from : ℕ → List ℕ → ℕ
value_from v [] = v
value_from v (d ∷ ds) = value_from (v * 10 + (d - 48)) ds

-- 1 to 5 digits, of which the first is `0` only where it is the only one
unfoldable pub is_numeral : List ℕ → Bool
is_numeral ds = leb 1 (length ds) && (leb (length ds) 5 && (eqb (length ds) 1 || not (eqb (get_or ds 0 0) 48)))

-- the number whose digits start at p, and the place after them; none where they are no numeral
unfoldable pub read_number : List ℕ → ℕ → Option (ℕ × ℕ)
read_number s p =
    let ds = leading_digits (drop p s) in
    cond (is_numeral ds) (Some (value_from 0 ds, p + length ds)) None

-- a number up to 65,535 that was written, with no digit after it, is read back
pub record ReadsBack : Type 0 where
  pub reads : (n : ℕ) (pre post : List ℕ) → n ≤ 65535 → is_digit (get_or post 0 0) ≡ false
      → read_number (pre ++ (digits n ++ post)) (length pre) ≡ Some (n, length pre + length (digits n))
