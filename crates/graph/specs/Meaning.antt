-- What a formula means over signals ss and constants cs, free of any look-up: each name by where it stands in its
-- list. Assumes nothing.
use Rattle.std.specs.Prelude.{ℕ, ◌+◌, ◌≤◌, ◌<◌, ◌≡◌, true, false, List, [], ◌∷◌, ◌++◌, take, drop}
use Rattle.text.specs.Quoted.{byte}
use Rattle.formula.specs.Grammar.{Tree, name, bit_of, bit, not, group, join}
use Rattle.formula.specs.Grammar as tree
use Rattle.assertion.specs.Graph.{Bytes, Run, signals_from, constants_from, Expr, truth, signal, constant, neg, conj, disj, xor, same, alike, Name, bits_of}

-- "a width of 1 to 16"
pub record IsWidth (w : ℕ) : Type 0 where
  pub some : 1 ≤ w
  pub most : w ≤ 16

abbrev pub EachWidth : List Name → Type 0
EachWidth [] = Unit {0}
EachWidth (x ∷ xs) = IsWidth x.width × EachWidth xs

-- "A name then stands for a run of inputs or latches": the bits of a signal come after those of the signals before
-- it, and so do those of a constant
pub data Named (ss cs : List Name) (n : Bytes) : Run → ℕ → Type 0 where
  a_signal : (before after : List Name) (w : ℕ) → ss ≡ before ++ (record { name = n; width = w } ∷ after) → Named ss cs n (signals_from (bits_of before)) w
  a-constant : (before after : List Name) (w : ℕ) → cs ≡ before ++ (record { name = n; width = w } ∷ after) → Named ss cs n (constants_from (bits_of before)) w

-- "lowest bit first": bit i of a run
unfoldable pub bit_in : Run → ℕ → Expr
bit_in (signals_from j) i = signal (j + i)
bit_in (constants_from j) i = constant (j + i)

-- what the tree of the field s means: a name by itself has one bit; "`name[n]` is one bit", below the width;
-- "`left==right` compares two names of equal width"
pub data Means (ss cs : List Name) (s : Bytes) : Tree → Expr → Type 0 where
  one_bit : (p n : ℕ) (r : Run) → Named ss cs (take n (drop p s)) r 1 → Means ss cs s (name p n) (bit_in r 0)
  bit_at_index : (p n i w : ℕ) (r : Run) → Named ss cs (take n (drop p s)) r w → i < w → Means ss cs s (bit_of p n i) (bit_in r i)
  compared : (p n q m w : ℕ) (a b : Run) → Named ss cs (take n (drop p s)) a w → Named ss cs (take m (drop q s)) b w → Means ss cs s (tree.alike p n q m) (alike a b w)
  is_zero : Means ss cs s (bit (byte "0")) (truth false)
  is_one : Means ss cs s (bit (byte "1")) (truth true)
  inverted : (e : Tree) (x : Expr) → Means ss cs s e x → Means ss cs s (not e) (neg x)
  bracketed : (e : Tree) (x : Expr) → Means ss cs s e x → Means ss cs s (group e) x
  both : (e f : Tree) (x y : Expr) → Means ss cs s e x → Means ss cs s f y → Means ss cs s (join (byte "&") e f) (conj x y)
  some : (e f : Tree) (x y : Expr) → Means ss cs s e x → Means ss cs s f y → Means ss cs s (join (byte "|") e f) (disj x y)
  just_one : (e f : Tree) (x y : Expr) → Means ss cs s e x → Means ss cs s f y → Means ss cs s (join (byte "^") e f) (xor x y)
  both-alike : (e f : Tree) (x y : Expr) → Means ss cs s e x → Means ss cs s f y → Means ss cs s (join (byte "=") e f) (same x y)
