-- A byte run: a number, seven bits a byte, lowest first, the top bit set when more follow, and no byte more than are
-- needed. Assumes nothing.
use Rattle.std.specs.Prelude.{true, false, List, [], ◌∷◌, ℕ, zero, suc, ◌+◌, ◌/◌, ◌%◌, ltb}

-- of suc k bytes at most, which are enough for what is below 128 to the power of suc k
unfoldable pub run_of : ℕ → ℕ → List ℕ
run_of zero n = n % 128 ∷ []
run_of (suc k) n = elim (ltb n 128) [ true ↦ n ∷ [] | false ↦ (128 + n % 128) ∷ run_of k (n / 128) ]

-- n + 1 bytes are enough for n
unfoldable pub run : ℕ → List ℕ
run n = run_of n n
