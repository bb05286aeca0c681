-- A vertex looked up among those whose names start at places of a text, and a signal or a constant among those
-- declared. Assumes nothing.
use Rattle.std.specs.Prelude.{Option, Some, None}
use Rattle.std.specs.Option.{MatchOption}
use Rattle.std.specs.List.{AllWithin, HoldsAt}
use Prim.Native.Nat.{ℕ, zero, suc, ◌+◌, ◌/◌, ◌%◌, ◌≤◌, ◌<◌, min}
use mathlib.Core.Path.{◌≡◌, refl, sym, ap, ◌∙◌}
use mathlib.Core.Bool.{Bool, true, false}
use mathlib.Core.List.{List, [], ◌∷◌}
use native.Mathlib.Numerals.{add-one}
use native.Mathlib.Omega.{arith}
use native.Mathlib.Decide.{dec_lt}
use borrow.Author.Tests.{lt-ltb, le-ltb}
use lib.Dec.{ltb}
use lib.ListN.{length, get_or, take, drop, length-map, drop_of_length-le}
use lib.Seq.{drop-cons, take_all}
use Rattle.assertion.specs.Graph.{Bytes}
use Rattle.graph.specs.Pieces.{piece_at, same, place_of, look_up, look_up_name}
use Rattle.graph.specs.Held.{declared_in}
use Rattle.graph.specs.Private.Steps.{points, held}

-- ---- a vertex
module _ (text name : Bytes) where
  abbrev here : ℕ → Bool
  here start = same name (piece_at 10 text start)

  place_at : (starts : List ℕ) (i : ℕ) → i < length starts → ((d : ℕ) → here (get_or starts i d) ≡ true) → ((k d : ℕ) → k < i → here (get_or starts k d) ≡ false) → place_of name (points text starts) ≡ i
  unfolding place_of
  place_at [] i l h b = absurd (omega arith)
  place_at (x ∷ xs) zero l h b = rw (h x, place_of)
  place_at (x ∷ xs) (suc i) l h b = rw (b 0 x (omega arith), place_of) (ap suc (place_at xs i (omega arith) h (λ k d m. b (suc k) d (omega arith))))

  place_past : (starts : List ℕ) → ((k d : ℕ) → k < length starts → here (get_or starts k d) ≡ false) → place_of name (points text starts) ≡ length starts
  unfolding place_of
  place_past [] b = refl
  place_past (x ∷ xs) b = rw (b 0 x (omega arith), place_of) (ap suc (place_past xs (λ k d m. b (suc k) d (omega arith))))

  found : ℕ → ℕ → Option ℕ
  found x most = elim (ltb x most) [ true ↦ Some x | false ↦ None ]

  found_at : (starts : List ℕ) (i : ℕ) → place_of name (points text starts) ≡ i → found i (length starts) ≡ look_up name (points text starts)
  unfolding look_up found
  found_at starts i e = ap (λ (x : ℕ). found x (length starts)) (sym e) ∙ ap (found (place_of name (points text starts))) (sym (length-map starts (piece_at 10 text)))

  -- what a search of the starts answers
  pub position_is : (starts : List ℕ) (r : Option ℕ) → MatchOption r (AllWithin (λ x. here x ≡ false) starts 0 (length starts)) (λ i. (i < length starts) × HoldsAt (λ x. here x ≡ true) starts i × AllWithin (λ x. here x ≡ false) starts 0 i) → r ≡ look_up name (points text starts)
  unfolding found
  position_is starts None h =
      ap (λ (t : Bool). elim t [ true ↦ Some (length starts) | false ↦ None ]) (sym (le-ltb (length starts) (length starts) (omega arith)))
      ∙ found_at starts (length starts) (place_past starts (λ k d l. h k d (omega arith) l))
  position_is starts (Some i) h =
      ap (λ (t : Bool). elim t [ true ↦ Some i | false ↦ None ]) (sym (lt-ltb i (length starts) h.0))
      ∙ found_at starts i (place_at starts i h.0 h.1 (λ k d l. h.2 k d (omega arith) l))

-- ---- a signal or a constant
-- the first count, or all where there are fewer
pub first_least : (symbols : List ℕ) (count : ℕ) {n : ℕ} → n ≡ min count (length symbols) → take n symbols ≡ take count symbols
first_least symbols count {n} h = by (dec_lt (length symbols) count)
  where
    by : Dec (length symbols < count) → take n symbols ≡ take count symbols
    by (yes l) = take_all n symbols (omega arith) ∙ sym (take_all count symbols (omega arith))
    by (no l) = let e : n ≡ count = omega arith in rw e

-- of the words k are passed
module _ (text name : Bytes) (words : List ℕ) (k : ℕ) where
  abbrev word : ℕ
  word = get_or words k 0

  next : k < length words → drop k words ≡ word ∷ drop (k + 1) words
  next l = rw (add-one k) (drop-cons words k 0 l)

  pub name_found_lem : {own : Bytes} {t : Bool} → k < length words → own ≡ take (word / 4096 % 16) (drop (word / 65536) text) → t ≡ same name own → t ≡ true → Some (record { place = word / 32 % 128; width = word % 32 }) ≡ look_up_name name (held text (drop k words))
  unfolding look_up_name declared_in
  name_found_lem l o r f = rw (next l, ← o, ← r, f, look_up_name)

  pub name-later : {own : Bytes} {t : Bool} → k < length words → own ≡ take (word / 4096 % 16) (drop (word / 65536) text) → t ≡ same name own → t ≡ false → look_up_name name (held text (drop (k + 1) words)) ≡ look_up_name name (held text (drop k words))
  unfolding look_up_name declared_in
  name-later l o r f = rw (next l, ← o, ← r, f, look_up_name)

  pub name-none : length words ≤ k → None ≡ look_up_name name (held text (drop k words))
  unfolding look_up_name
  name-none l = rw (drop_of_length-le words l)
