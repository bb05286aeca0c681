-- What a formula is, free of any reader: a tree whose text is the field and whose operators group as they
-- bind; and the claim that the grammar gives just this tree. Assumes nothing.
use Rattle.std.specs.Prelude.{◌≡◌, true, ℕ, ◌+◌, ◌≤◌, ◌<◌, length, take, drop}
use mathlib.Core.List.{List, [], ◌∷◌, ◌++◌, Memᴰ}
use Rattle.text.specs.Quoted.{byte, bytes}
use Rattle.text.specs.Numbers.{digits}
use Rattle.formula.specs.Classes.{strength_of, is_name}
use Rattle.formula.specs.Grammar.{Tree, name, bit_of, alike, bit, not, group, join, tree, tree_of}

-- names, `0`, `1`, brackets and operators, no blanks: the tree written out, its names as they stand in
-- the field s. `name[n]` is one bit, n without leading zero; `left==right` compares two names.
unfoldable pub written : List ℕ → Tree → List ℕ
written s (name p n) = take n (drop p s)
written s (bit_of p n i) = take n (drop p s) ++ (byte "[" ∷ (digits i ++ bytes "]"))
written s (alike p n q m) = take n (drop p s) ++ (byte "=" ∷ byte "=" ∷ take m (drop q s))
written s (bit b) = b ∷ []
written s (not e) = byte "!" ∷ written s e
written s (group e) = byte "(" ∷ (written s e ++ bytes ")")
written s (join b l r) = written s l ++ (b ∷ written s r)

-- the operators between two formulas, tightest first
abbrev pub operators : List ℕ
operators = bytes "&^|="

-- the name of n bytes from p on stands at the place `at` of the field s
abbrev pub NameAt : List ℕ → ℕ → ℕ → ℕ → Type 0
NameAt s at p n = (p ≡ at) × (p + n ≤ length s) × (is_name (take n (drop p s)) ≡ true)

-- the tree written from the place `at` of the field s on: each name stands in the field at its own place
-- and is a letter, then letters, digits or `_`, 1 to 15 bytes; a bit is `0` or `1`; an operator joins two
-- formulas
unfoldable pub Placed : List ℕ → ℕ → Tree → Type 0
Placed s at (name p n) = NameAt s at p n
Placed s at (bit_of p n i) = NameAt s at p n
Placed s at (alike p n q m) = NameAt s at p n × NameAt s (at + n + 2) q m
Placed s at (bit b) = Memᴰ b (bytes "01")
Placed s at (not e) = Placed s (at + 1) e
Placed s at (group e) = Placed s (at + 1) e
Placed s at (join b l r) = (Memᴰ b operators) × (Placed s at l) × (Placed s (at + length (written s l) + 1) r)

-- `!` binds tightest
abbrev pub tightest : ℕ
tightest = strength_of (byte "&") + 1

-- then `&`, `^`, `|`, and `=` loosest; no other byte joins two formulas
pub record Order : Type 0 where
  pub and : strength_of (byte "^") < strength_of (byte "&")
  pub xor : strength_of (byte "|") < strength_of (byte "^")
  pub or : strength_of (byte "=") < strength_of (byte "|")
  pub equals : 0 < strength_of (byte "=")
  pub others : (b : ℕ) → (Memᴰ b operators → ⊥) → strength_of b ≡ 0

-- how tightly a formula holds together: as its operator binds; where it is not joined by one, nothing
-- binds tighter
unfoldable pub binding_of : Tree → ℕ
binding_of (name p n) = tightest
binding_of (bit_of p n i) = tightest
binding_of (alike p n q m) = tightest
binding_of (bit b) = tightest
binding_of (not e) = tightest
binding_of (group e) = tightest
binding_of (join b l r) = strength_of b

-- what an operator joins holds together as tightly as the operator binds: `!` has an operand that no
-- operator joins; equal operators group to the left, so only the left formula may be joined by one as
-- strong. Within brackets stands a whole formula again, whatever joins it.
unfoldable pub Grouped : Tree → Type 0
Grouped (name p n) = Unit
Grouped (bit_of p n i) = Unit
Grouped (alike p n q m) = Unit
Grouped (bit b) = Unit
Grouped (not e) = (tightest ≤ binding_of e) × (Grouped e)
Grouped (group e) = Grouped e
Grouped (join b l r) = (strength_of b ≤ binding_of l) × (strength_of b < binding_of r) × (Grouped l) × (Grouped r)

-- the field s, 1 to 255 bytes, is the formula e
pub record IsFormula (s : List ℕ) (e : Tree) : Type 0 where
  pub some : 1 ≤ length s
  pub short : length s ≤ 255
  pub text : written s e ≡ s
  pub places : Placed s 0 e
  pub groups : Grouped e

-- THE CLAIM: the grammar's tree of a field is a formula that the field is, and every formula that the
-- field is, is that tree. So a field is one formula at most, and has no tree just where it is none.
pub record GrammarMeans (s : List ℕ) : Type 0 where
  pub order : Order
  pub only : (e : Tree) → tree_of s ≡ tree e → IsFormula s e
  pub every : (e : Tree) → IsFormula s e → tree_of s ≡ tree e
