-- What write answers and leaves, in digits: for every input, and in the request's cases. Assumes nothing.
use Rattle.std.specs.Prelude.{Result, Ok, Err}
use Prim.Native.Nat.{ℕ, ◌+◌, ◌*◌, ◌<◌, ◌≤◌}
use mathlib.Core.Path.{◌≡◌, refl}
use mathlib.Core.List.{List, [], ◌∷◌, ◌++◌, map}
use lib.ListN.{length, drop, replicate}
use Rattle.text.specs.Quoted.{bytes}
use Rattle.dearest_text.specs.Dearest.{vertex_line, loop_line, dearest_text}
use Rattle.dearest_graph.specs.declared.Cause.{Cause}
use Rattle.dearest_graph.specs.declared.Cause.TheVariants.{EdgesOutside, ShortBuffer}
use Rattle.dearest_graph.specs.Write.{refusal_of, is_inside, write_of}
use Rattle.dearest_graph.proofs.WriteLaws as write

-- ---- every input
numbers : (refusal_of EdgesOutside ≡ record { number = 24; line = 0 }) × (refusal_of ShortBuffer ≡ record { number = 12; line = 0 })
unfolding refusal_of
numbers = (refl, refl)

module _ (edges : ℕ) (text : List ℕ) where
  outside : (1 ≤ edges → edges ≤ 128 → ⊥) → write_of edges text ≡ record { answer = Err EdgesOutside; text = text }
  outside = write.outside edges text

  module _ (some : 1 ≤ edges) (few : edges ≤ 128) where
    short : length text < 4 + 12 * edges → write_of edges text ≡ record { answer = Err ShortBuffer; text = text }
    short = write.too_short edges text some few

    written : 4 + 12 * edges ≤ length text → write_of edges text ≡ record { answer = Ok (4 + 12 * edges); text = dearest_text edges ++ drop (4 + 12 * edges) text }
    written = write.written edges text some few

-- ---- the request's cases
-- the number and line of a refusal, or 0 and how many bytes the text has
abbrev told : Result ℕ Cause → List ℕ
told (Ok n) = 0 ∷ n ∷ []
told (Err cause) = (refusal_of cause).number ∷ (refusal_of cause).line ∷ []

-- so many edges, and how many bytes are lent
record Case : Type 0 where
  edges : ℕ
  room : ℕ

abbrev of : ℕ → ℕ → Case
of e r = record { edges = e; room = r }

abbrev answers : List Case → List (List ℕ)
answers = map (λ c. told (write_of c.edges (replicate c.room 7)).answer)

-- as long as is due, and one byte less
rooms : answers (of 1 16 ∷ of 1 15 ∷ of 2 28 ∷ of 2 27 ∷ of 3 40 ∷ of 128 1540 ∷ of 128 1539 ∷ [])
    ≡ (0 ∷ 16 ∷ []) ∷ (12 ∷ 0 ∷ []) ∷ (0 ∷ 28 ∷ []) ∷ (12 ∷ 0 ∷ []) ∷ (0 ∷ 40 ∷ []) ∷ (0 ∷ 1540 ∷ []) ∷ (12 ∷ 0 ∷ []) ∷ []
unfolding dearest_text vertex_line loop_line refusal_of is_inside write_of
rooms = refl

-- 24, whatever the buffer
none-or_many : answers (of 0 0 ∷ of 0 4 ∷ of 129 0 ∷ of 129 1552 ∷ []) ≡ replicate 4 (24 ∷ 0 ∷ [])
unfolding dearest_text vertex_line loop_line refusal_of is_inside write_of
none-or_many = refl

-- a longer buffer keeps its surplus
surplus : (write_of 1 (replicate 18 7)).text ≡ bytes "V\ta\nE\ta\ta\tt\t1\t1\n" ++ (7 ∷ 7 ∷ [])
unfolding dearest_text vertex_line loop_line is_inside write_of
surplus = refl
