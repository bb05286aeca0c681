-- The words of a formula: how many there are, and what each tells. For a field's tree every name stands
-- within the field, every bit is `0` or `1` and every operator binds. Assumes nothing.
use mathlib.Core.Path.{◌≡◌, ap}
use mathlib.Core.Bool.{true}
use mathlib.Core.List.{List, [], ◌∷◌, ◌++◌}
use Prim.Native.Nat.{ℕ, ◌+◌, ◌-◌, ◌/◌, ◌%◌, ◌≤◌, ◌<◌, min}
use native.Mathlib.Omega.{arith}
use lib.ListN.{length, take, drop, length-append, length-drop}
use lib.Seq.{length-take-le}
use Rattle.text.specs.Numbers.{digits}
use Rattle.formula.specs.declared.Start.TheVariants.{Bit}
use Rattle.formula.specs.Classes.{strength_of, start_of, is_name}
use Rattle.formula.specs.Grammar.{Tree, name, bit_of, alike, bit, not, group, join, tree, tree_of}
use Rattle.formula.specs.Reading.{name_word, bit_word, alike_word, byte_word, postfix}
use Rattle.formula.specs.Claims.{written, Placed, IsFormula}
use Rattle.formula.proofs.ByteLaws.{operator_strength, bit-starts, name-is}
use Rattle.formula.proofs.GrammarSound.{sound}

-- ---- one word

-- the name of n bytes from the place p stands within the field
pub record NameIn (s : List ℕ) (p n : ℕ) : Type 0 where
  pub some : 1 ≤ n
  pub short : n ≤ 15
  pub inside : p + n ≤ length s

pub name-place : (p n : ℕ) → n ≤ 15 → name_word p n / 16 ≡ p
unfolding name_word
name-place p n h = omega arith

pub name-length : (p n : ℕ) → n ≤ 15 → name_word p n % 16 ≡ n
unfolding name_word
name-length p n h = omega arith

pub name_word-small : (s : List ℕ) (p n : ℕ) → length s ≤ 255 → NameIn s p n → name_word p n < 4096
unfolding name_word
name_word-small s p n h i = omega arith

pub byte_word-large : (b : ℕ) → 4096 ≤ byte_word b
unfolding byte_word
byte_word-large b = omega arith

pub byte_word-back : (b : ℕ) → byte_word b - 4096 ≡ b
unfolding byte_word
byte_word-back b = omega arith

pub byte_word-small : (b : ℕ) → b < 256 → byte_word b < 8192
unfolding byte_word
byte_word-small b h = omega arith

pub bit_word-large : (p n i : ℕ) → 8192 ≤ bit_word p n i
unfolding bit_word
bit_word-large p n i = omega arith

-- two names compared; their words stand apart in the word
pub alike_word-large : (p n q m : ℕ) → 16777216 ≤ alike_word p n q m
unfolding alike_word
alike_word-large p n q m = omega arith

module _ (p n : ℕ) where
  module _ (i : ℕ) (h : name_word p n < 4096) where
    pub bit_word-small : bit_word p n i < 16777216
    unfolding bit_word
    bit_word-small = omega arith

    pub bit_word-name : bit_word p n i % 4096 ≡ name_word p n
    unfolding bit_word
    bit_word-name = omega arith

    pub bit_word-bit : bit_word p n i / 8192 - 1 ≡ min i 16
    unfolding bit_word
    bit_word-bit = omega arith

  module _ (q m : ℕ) (h : name_word p n < 4096) (k : name_word q m < 4096) where
    pub alike_word-left : (alike_word p n q m - 16777216) / 4096 ≡ name_word p n
    unfolding alike_word
    alike_word-left = omega arith

    pub alike_word-right : alike_word p n q m % 4096 ≡ name_word q m
    unfolding alike_word
    alike_word-right = omega arith

    pub alike_word-bound : alike_word p n q m < 33554432
    unfolding alike_word
    alike_word-bound = omega arith

-- ---- all words

pub words-some : (e : Tree) → 0 < length (postfix e)
unfolding postfix
words-some (name p n) = omega arith
words-some (bit_of p n i) = omega arith
words-some (alike p n q m) = omega arith
words-some (bit b) = omega arith
words-some (not e) = omega (arith, length-append (postfix e) (byte_word 33 ∷ []))
words-some (group e) = words-some e
words-some (join b e e2) = omega (arith, length-append (postfix e ++ postfix e2) (byte_word b ∷ []))

-- what the tree of a field has for names, bits and operators
abbrev pub InField : List ℕ → Tree → Type 0
InField s (name p n) = NameIn s p n
InField s (bit_of p n i) = NameIn s p n
InField s (alike p n q m) = NameIn s p n × NameIn s q m
InField s (bit b) = start_of b ≡ Bit
InField s (not e) = InField s e
InField s (group e) = InField s e
InField s (join b e e2) = (0 < strength_of b) × (InField s e) × (InField s e2)

module _ (s : List ℕ) where
  name_in : (p n : ℕ) → p + n ≤ length s → is_name (take n (drop p s)) ≡ true → NameIn s p n
  name_in p n i h =
      let w = name-is (take n (drop p s)) h in
      let l = length-take-le n (drop p s) (omega (arith, length-drop p s)) in
      record { some = omega (arith, w.some); short = omega (arith, w.short); inside = i }

  placed-field : (at : ℕ) (e : Tree) → Placed s at e → InField s e
  unfolding Placed
  placed-field at (name p n) h = name_in p n h.1 h.2
  placed-field at (bit_of p n i) h = name_in p n h.1 h.2
  placed-field at (alike p n q m) h = (name_in p n h.0.1 h.0.2, name_in q m h.1.1 h.1.2)
  placed-field at (bit b) h = bit-starts h
  placed-field at (not e) h = placed-field (at + 1) e h
  placed-field at (group e) h = placed-field (at + 1) e h
  placed-field at (join b l r) h = (operator_strength h.0, placed-field at l h.1, placed-field (at + length (written s l) + 1) r h.2)

  words-written : (at : ℕ) (e : Tree) → Placed s at e → length (postfix e) ≤ length (written s e)
  unfolding Placed postfix written
  words-written at (name p n) h = (name-is (take n (drop p s)) h.2).some
  words-written at (bit_of p n i) h = omega (arith, length-append (take n (drop p s)) (91 ∷ (digits i ++ (93 ∷ []))))
  words-written at (alike p n q m) h = omega (arith, length-append (take n (drop p s)) (61 ∷ 61 ∷ take m (drop q s)))
  words-written at (bit b) h = omega arith
  words-written at (not e) h = omega (arith, words-written (at + 1) e h, length-append (postfix e) (byte_word 33 ∷ []))
  words-written at (group e) h = omega (arith, words-written (at + 1) e h, length-append (written s e) (41 ∷ []))
  words-written at (join b l r) h =
      omega (
        arith,
        words-written at l h.1,
        words-written (at + length (written s l) + 1) r h.2,
        length-append (postfix l ++ postfix r) (byte_word b ∷ []),
        length-append (postfix l) (postfix r),
        length-append (written s l) (b ∷ written s r),
      )

  module _ (e : Tree) (is : tree_of s ≡ tree e) where
    is-formula : IsFormula s e
    is-formula = sound s e is

    -- a formula's field is short
    pub field-short : length s ≤ 255
    field-short = is-formula.short

    -- its names, bits and operators
    pub in_field : InField s e
    in_field = placed-field 0 e is-formula.places

    -- it has no more words than bytes
    pub words_fit_lem : length (postfix e) ≤ length s
    words_fit_lem = omega (arith, words-written 0 e is-formula.places, ap length is-formula.text)

    pub words-few : length (postfix e) ≤ 255
    words-few = omega (arith, words_fit_lem, field-short)
