-- The bits of names one after another. Assumes nothing.
use Prim.Native.Nat.{ℕ, ◌+◌, ◌*◌, ◌/◌, ◌%◌, ◌≤◌}
use mathlib.Core.Path.{◌≡◌, refl, ap, ◌∙◌}
use mathlib.Core.List.{List, [], ◌∷◌, ◌++◌}
use native.Mathlib.Nat.{add-zero}
use native.Mathlib.Omega.{arith}
use lib.ListN.{length, take, drop}
use Rattle.assertion.specs.Graph.{Bytes, Name, bits_of}
use Rattle.graph.specs.Pieces.{Declared, placed}
use Rattle.graph.specs.Meaning.{EachWidth}
use Rattle.graph.specs.Held.{symbol_word, declared_in}
use Rattle.graph.specs.Private.Steps.{EachNarrow}

pub bits-append : (xs ys : List Name) → bits_of (xs ++ ys) ≡ bits_of xs + bits_of ys
unfolding bits_of
bits-append [] ys = omega arith
bits-append (x ∷ xs) ys = omega (arith, bits-append xs ys)

pub bits-more : (xs : List Name) (x : Name) → bits_of (xs ++ (x ∷ [])) ≡ bits_of xs + x.width
unfolding bits_of
bits-more xs x = bits-append xs (x ∷ []) ∙ ap (λ (k : ℕ). bits_of xs + k) (add-zero x.width)

pub bits_none : (xs : List Name) → length xs ≡ 0 → bits_of xs ≡ 0
unfolding bits_of
bits_none [] h = refl
bits_none (x ∷ xs) h = absurd (omega arith)

-- each name has one bit at least
pub bits-some : (xs : List Name) → EachWidth xs → length xs ≤ bits_of xs
unfolding bits_of
bits-some [] h = omega arith
bits-some (x ∷ xs) h = omega (arith, bits-some xs h.1, h.0.some)

pub each_right : (xs ys : List Name) → EachWidth (xs ++ ys) → EachWidth ys
each_right [] ys h = h
each_right (x ∷ xs) ys h = each_right xs ys h.1

pub each_left : (xs ys : List Name) → EachWidth (xs ++ ys) → EachWidth xs
each_left [] ys h = tt
each_left (x ∷ xs) ys h = (h.0, each_left xs ys h.1)

pub each_both : (xs ys : List Name) → EachWidth xs → EachWidth ys → EachWidth (xs ++ ys)
each_both [] ys h k = k
each_both (x ∷ xs) ys h k = (h.0, each_both xs ys h.1 k)

-- names one after another, with one more
pub placed-more : (p : ℕ) (xs : List Name) (x : Name) → placed p (xs ++ (x ∷ [])) ≡ placed p xs ++ (record { name = x.name; place = p + bits_of xs; width = x.width } ∷ [])
unfolding placed bits_of
placed-more p [] x = rw (add-zero p)
placed-more p (y ∷ xs) x =
    let f : p + y.width + bits_of xs ≡ p + (y.width + bits_of xs) = omega arith in
    ap (λ (l : List Declared). record { name = y.name; place = p; width = y.width } ∷ l) (placed-more (p + y.width) xs x ∙ rw f)

-- no name of a graph has more than 16 bits
pub placed_narrow : (p : ℕ) (xs : List Name) → EachWidth xs → EachNarrow (placed p xs)
unfolding placed
placed_narrow p [] h = tt
placed_narrow p (x ∷ xs) h = (h.0.most, placed_narrow (p + x.width) xs h.1)

-- ---- the word of a signal or a constant, read back
pub symbol-back : (text : Bytes) (start n place w : ℕ) → n ≤ 15 → place ≤ 127 → w ≤ 31 → declared_in text (symbol_word start n place w) ≡ record { name = take n (drop start text); place = place; width = w }
unfolding declared_in symbol_word
symbol-back text start n place w h k l =
    let a : (start * 65536 + n * 4096 + place * 32 + w) / 4096 % 16 ≡ n = omega arith in
    let b : (start * 65536 + n * 4096 + place * 32 + w) / 65536 ≡ start = omega arith in
    let c : (start * 65536 + n * 4096 + place * 32 + w) / 32 % 128 ≡ place = omega arith in
    let d : (start * 65536 + n * 4096 + place * 32 + w) % 32 ≡ w = omega arith in
    rw (a, b, c, d)
