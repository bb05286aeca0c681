-- What write answers and leaves, in digits: for every input, and in the request's cases. Assumes nothing.
use Rattle.std.specs.Prelude.{Result, Ok, Err}
use Prim.Native.Nat.{ℕ, ◌+◌, ◌*◌, ◌<◌, ◌≤◌}
use mathlib.Core.Path.{◌≡◌, refl, ap₂}
use mathlib.Core.Bool.{Bool, true, false, cond, not, ◌&&◌}
use mathlib.Core.List.{List, [], ◌∷◌, ◌++◌, map}
use native.Mathlib.Omega.{arith}
use borrow.Author.Tests.{leb-true, leb-false, ltb-true, ltb-false, lt-ltb, le-ltb}
use lib.Dec.{leb, ltb}
use lib.ListN.{length, drop, replicate, length-replicate}
use Rattle.text.specs.Quoted.{bytes}
use Rattle.text.specs.Numbers.{digits, digits_of}
use Rattle.buffer_text.specs.Text.{heading, vertex_line, start_line, edge_line, count_lines, buffer_text}
use Rattle.buffer_graph.specs.declared.Cause.{Cause}
use Rattle.buffer_graph.specs.declared.Cause.TheVariants.{StrokesOutside, ShortBuffer}
use Rattle.buffer_graph.specs.Write.{refusal_of, is_inside, write_of}
use Rattle.buffer_graph.proofs.WriteLaws as write
use Rattle.buffer_graph.proofs.WriteLaws.{due_for}

-- ---- every input
numbers : (refusal_of StrokesOutside ≡ record { number = 20; line = 0 }) × (refusal_of ShortBuffer ≡ record { number = 12; line = 0 })
unfolding refusal_of
numbers = (refl, refl)

-- how many bytes are due
one-digit : (k : ℕ) → k < 10 → due_for k ≡ 100 * k + 72
one-digit k h = rw (lt-ltb k 10 h)

two_digits : (k : ℕ) → 10 ≤ k → due_for k ≡ 107 * k + 7
two_digits k h = rw (le-ltb k 10 h)

module _ (strokes : ℕ) (text : List ℕ) where
  outside : (1 ≤ strokes → strokes ≤ 40 → ⊥) → write_of strokes text ≡ record { answer = Err StrokesOutside; text = text }
  outside = write.outside strokes text

  module _ (some : 1 ≤ strokes) (few : strokes ≤ 40) where
    short : length text < due_for strokes → write_of strokes text ≡ record { answer = Err ShortBuffer; text = text }
    short = write.too_short strokes text some few

    written : due_for strokes ≤ length text → write_of strokes text ≡ record { answer = Ok (due_for strokes); text = buffer_text strokes ++ drop (due_for strokes) text }
    written = write.written strokes text some few

-- ---- the request's cases
-- the number and line of a refusal, or 0 and how many bytes the text has
abbrev told : Result ℕ Cause → List ℕ
told (Ok n) = 0 ∷ n ∷ []
told (Err cause) = (refusal_of cause).number ∷ (refusal_of cause).line ∷ []

-- so many strokes, and how many bytes are lent
record Case : Type 0 where
  strokes : ℕ
  room : ℕ

abbrev of : ℕ → ℕ → Case
of k r = record { strokes = k; room = r }

abbrev answer : Case → List ℕ
answer c = told (write_of c.strokes (replicate c.room 7)).answer

-- the same by numbers alone
abbrev foretold : Case → List ℕ
foretold c =
    cond (not (leb 1 c.strokes && leb c.strokes 40)) (20 ∷ 0 ∷ [])
    (cond (ltb c.room (due_for c.strokes)) (12 ∷ 0 ∷ []) (0 ∷ due_for c.strokes ∷ []))

module _ (k room : ℕ) where
  abbrev text : List ℕ
  text = replicate room 7

  long : length text ≡ room
  long = length-replicate room 7

  as_foretold : answer (of k room) ≡ foretold (of k room)
  unfolding refusal_of
  as_foretold = by (leb 1 k) (leb k 40) (ltb room (due_for k)) refl refl refl
    where
      by : (a b s : Bool) → leb 1 k ≡ a → leb k 40 ≡ b → ltb room (due_for k) ≡ s
          → answer (of k room) ≡ cond (not (a && b)) (20 ∷ 0 ∷ []) (cond s (12 ∷ 0 ∷ []) (0 ∷ due_for k ∷ []))
      by true true true d e f = rw (short k text (leb-true 1 k d) (leb-true k 40 e) (rw long (ltb-true room (due_for k) f)))
      by true true false d e f = rw (written k text (leb-true 1 k d) (leb-true k 40 e) (rw long (ltb-false room (due_for k) f)))
      by true false s d e f = rw (outside k text (λ a b. omega (arith, leb-false k 40 e)))
      by false b s d e f = rw (outside k text (λ a b. omega (arith, leb-false 1 k d)))

all_foretold : (cs : List Case) → map answer cs ≡ map foretold cs
all_foretold [] = refl
all_foretold (c ∷ cs) = ap₂ ◌∷◌ (as_foretold c.strokes c.room) (all_foretold cs)

-- as long as is due, and one byte less
rooms : map answer (of 1 172 ∷ of 1 171 ∷ of 2 272 ∷ of 2 271 ∷ of 9 972 ∷ of 10 1077 ∷ of 10 1076 ∷ of 39 4180 ∷ of 40 4287 ∷ of 40 4286 ∷ [])
    ≡ (0 ∷ 172 ∷ []) ∷ (12 ∷ 0 ∷ []) ∷ (0 ∷ 272 ∷ []) ∷ (12 ∷ 0 ∷ []) ∷ (0 ∷ 972 ∷ []) ∷ (0 ∷ 1077 ∷ []) ∷ (12 ∷ 0 ∷ []) ∷ (0 ∷ 4180 ∷ []) ∷ (0 ∷ 4287 ∷ []) ∷ (12 ∷ 0 ∷ []) ∷ []
rooms = rw all_foretold

-- 20, whatever the buffer
none-or_many : map answer (of 0 0 ∷ of 0 5000 ∷ of 41 0 ∷ of 41 5000 ∷ []) ≡ replicate 4 (20 ∷ 0 ∷ [])
none-or_many = rw all_foretold

-- a longer buffer keeps its surplus
abbrev text_of1 : List ℕ
text_of1 =
    bytes "S\treset\nS\tenq\nS\tdeq\nS\tempty\nS\tfull\nV\ts\nV\tn0\nV\tn1\nE\ts\tn0\tt\treset\t1\n"
    ++ (bytes "E\tn0\tn1\tt\tenq\tempty&!full\nE\tn0\tn0\tt\t!enq\tempty&!full\n"
    ++ bytes "E\tn1\tn0\tt\tdeq\t!empty&full\nE\tn1\tn1\tt\t!deq\t!empty&full\n")

surplus : (write_of 1 (replicate 174 7)).text ≡ text_of1 ++ (7 ∷ 7 ∷ [])
unfolding write_of is_inside buffer_text heading vertex_line start_line edge_line count_lines digits digits_of
surplus = refl
