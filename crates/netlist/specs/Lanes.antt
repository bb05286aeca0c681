-- A simulated variable is a word of 64 bits, one lane for each setting. Lane n of a word is its bit n.
-- Assumes nothing.
use Rattle.std.specs.Prelude.{Bool, true, cond, ◌&&◌, ℕ, zero, suc, ◌+◌, ◌*◌, ◌/◌, ◌%◌, eqb}

-- bit n of a number, n from 0
unfoldable pub lane : ℕ → ℕ → Bool
lane zero w = eqb (w % 2) 1
lane (suc n) w = lane n (w / 2)

-- f holds at each number below k
unfoldable pub each : ℕ → (ℕ → Bool) → Bool
each zero f = true
each (suc k) f = f zero && each k (λ n. f (suc n))

-- the number whose bits 0 to k - 1 are those of f
unfoldable pub number_of : ℕ → (ℕ → Bool) → ℕ
number_of zero f = 0
number_of (suc k) f = cond (f zero) 1 0 + 2 * number_of k (λ n. f (suc n))

-- the word whose lane n is f n
unfoldable pub word_of : (ℕ → Bool) → ℕ
word_of f = number_of 64 f
