-- Where a machine's netlist, latch words and waiting cycles stand in the lent buffers. Assumes nothing.
use Rattle.std.specs.Prelude.{Bool, true, ◌&&◌, List, [], ◌∷◌, ◌++◌, ℕ, zero, suc, ◌+◌, ◌*◌, ◌/◌, length, take, drop}
use Rattle.assertion.specs.Graph.{Cycle}
use Rattle.trace.specs.Traces.{is_cycle}

-- ---- parts
-- a buffer is eight equal parts; a rest is no part
abbrev pub width : {A : Type 0} → List A → ℕ
width xs = length xs / 8

-- part k, k from 0
unfoldable pub part_of : {A : Type 0} → ℕ → List A → List A
part_of k xs = take (width xs) (drop (k * width xs) xs)

-- the buffer with p for its part k
unfoldable pub with_part : ℕ → List ℕ → List ℕ → List ℕ
with_part k p xs = take (k * width xs) xs ++ (p ++ drop (k * width xs + width xs) xs)

-- ---- slots
-- the first n waiting cycles of a machine with i inputs, oldest first: each in the first i bytes of a slot of 64
unfoldable pub cycles_in : ℕ → ℕ → List ℕ → List Cycle
cycles_in i zero queue = []
cycles_in i (suc n) queue = take i queue ∷ cycles_in i n (drop 64 queue)

-- each of these cycles is one of a machine with i inputs
unfoldable pub are_cycles : ℕ → List Cycle → Bool
are_cycles i [] = true
are_cycles i (c ∷ cs) = is_cycle i c && are_cycles i cs

-- a new cycle behind n that wait
unfoldable pub placed : ℕ → Cycle → List ℕ → List ℕ
placed n cycle queue = take (64 * n) queue ++ (cycle ++ drop (64 * n + length cycle) queue)

-- the oldest is gone, and n that waited behind it are one slot further in front; the other slots keep their bytes
unfoldable pub shifted : ℕ → List ℕ → List ℕ
shifted n queue = take (64 * n) (drop 64 queue) ++ drop (64 * n) queue
