-- A byte run at a place of a text: its number and the place after it, or no run. Seven bits a byte, lowest first, top
-- bit set when more follow. A run that is missing, over three bytes, unfinished or not shortest is none. Assumes nothing.
use Rattle.std.specs.Prelude.{Bool, true, false, cond, not, ◌&&◌, List, ℕ, zero, suc, ◌+◌, ◌-◌, ◌*◌, eqb, ltb, length, get_or}

pub data Run : Type 0 where
  took : ℕ → ℕ → Run
  broken : Run

-- a last byte b, with q after it: 0 only where it is the only one
unfoldable pub last : Bool → ℕ → ℕ → Run
last first b q = cond (eqb b 0 && not first) broken (took b q)

-- a byte with the top bit set, before the rest of its run
unfoldable pub more : ℕ → Run → Run
more b (took v q) = took ((b - 128) + 128 * v) q
more b broken = broken

-- a run of at most suc k bytes at p; `first` tells that none came before. Nothing stands past the end of the text
unfoldable pub bytes_at : ℕ → Bool → List ℕ → ℕ → Run
bytes_at zero first s p =
    cond (ltb p (length s)) (cond (ltb (get_or s p 0) 128) (last first (get_or s p 0) (p + 1)) broken) broken
bytes_at (suc k) first s p =
    elim (ltb p (length s)) [
      | true ↦ elim (ltb (get_or s p 0) 128) [
        | true ↦ last first (get_or s p 0) (p + 1)
        | false ↦ more (get_or s p 0) (bytes_at k false s (p + 1))
      ]
      | false ↦ broken
    ]

-- a run: at most three bytes
unfoldable pub run_at : List ℕ → ℕ → Run
run_at s p = bytes_at 2 true s p
