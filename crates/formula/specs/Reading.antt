-- What reading a field answers: whether it is a formula, its depth, and its operands and operators in
-- postfix order, from which names are looked up and gates are made. Assumes nothing.
use Rattle.std.specs.Prelude.{ℕ, ◌+◌, ◌*◌, ◌-◌, min, Option, Some, None, List, [], ◌∷◌, ◌++◌, length, replicate}
use Rattle.text.specs.Quoted.{byte}
use Rattle.formula.specs.Grammar.{Tree, name, bit_of, alike, bit, not, group, join, Parsed, none, tree, tree_of, depth_of}
use Rattle.formula.specs.declared.Formula.{Formula}

-- the word of a name: 16 times its first place, and its length, which is at most 15
unfoldable pub name_word : ℕ → ℕ → ℕ
name_word at n = at * 16 + n

-- the word of bit i of a name: its name's word and, from 8192 on, i; no name has more than 16 bits, so
-- all i from 16 on count as 16
unfoldable pub bit_word : ℕ → ℕ → ℕ → ℕ
bit_word at n i = 8192 * (min i 16 + 1) + name_word at n

-- the word of two names compared: the words of both, from 16,777,216 on
unfoldable pub alike_word : ℕ → ℕ → ℕ → ℕ → ℕ
alike_word at n to m = 16777216 + 4096 * name_word at n + name_word to m

-- the word of `0`, `1`, `!` or an operator between two operands
unfoldable pub byte_word : ℕ → ℕ
byte_word b = 4096 + b

-- operands left to right before their operator
unfoldable pub postfix : Tree → List ℕ
postfix (name at n) = name_word at n ∷ []
postfix (bit_of at n i) = bit_word at n i ∷ []
postfix (alike at n to m) = alike_word at n to m ∷ []
postfix (bit b) = byte_word b ∷ []
postfix (not e) = postfix e ++ (byte_word (byte "!") ∷ [])
postfix (group e) = postfix e
postfix (join b e e2) = (postfix e ++ postfix e2) ++ (byte_word b ∷ [])

-- 255 words, of which the first are those given and the others 0
unfoldable pub padded : List ℕ → List ℕ
padded ws = ws ++ replicate (255 - length ws) 0

unfoldable pub answer_of : Parsed → Option Formula
answer_of none = None
answer_of (tree e) = Some (record { depth = depth_of e; count = length (postfix e); words = padded (postfix e) })

unfoldable pub formula_of : List ℕ → Option Formula
formula_of s = answer_of (tree_of s)
