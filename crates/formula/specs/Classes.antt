-- The bytes of a graph text: the class of each byte, the binding strength of an operator, what an
-- operand is by its first byte, and the bytes of a name. Assumes nothing.
use Rattle.std.specs.Prelude.{ℕ, suc, Bool, true, false, List, [], ◌∷◌, leb, eqb, length}
use Rattle.text.specs.Quoted.{byte}
use Rattle.formula.specs.declared.Class.{Class}
use Rattle.formula.specs.declared.Class.TheVariants.{Other, Letter, Digit, Underscore, Operator, Opening, Closing, OpeningSquare, ClosingSquare, Tab, Lf}
use Rattle.formula.specs.declared.Start.{Start}
use Rattle.formula.specs.declared.Start.TheVariants.{Not, Group, Bit, Name, Nothing}

-- the first where the test holds, else the second
abbrev pub pick : {A : Type 0} → Bool → A → A → A
pick true a b = a
pick false a b = b

abbrev pub within : ℕ → ℕ → ℕ → Bool
within lo hi b = pick (leb lo b) (leb b hi) false

-- Every byte value has one class. Letters are A to Z and a to z; operators are `! & ^ | =`; brackets are
-- `(` and `)`; `[` and `]` have classes of their own.
unfoldable pub class_of : ℕ → Class
class_of b =
    pick (within (byte "A") (byte "Z") b) Letter
    (pick (within (byte "a") (byte "z") b) Letter
    (pick (within (byte "0") (byte "9") b) Digit
    (pick (eqb b (byte "_")) Underscore
    (pick (eqb b (byte "!")) Operator
    (pick (eqb b (byte "&")) Operator
    (pick (eqb b (byte "^")) Operator
    (pick (eqb b (byte "|")) Operator
    (pick (eqb b (byte "=")) Operator
    (pick (eqb b (byte "(")) Opening
    (pick (eqb b (byte ")")) Closing
    (pick (eqb b (byte "[")) OpeningSquare
    (pick (eqb b (byte "]")) ClosingSquare
    (pick (eqb b (byte "\t")) Tab
    (pick (eqb b (byte "\n")) Lf Other))))))))))))))

-- how tightly an operator between two operands binds: `&`, then `^`, `|`, and `=` loosest; any other
-- byte is none
unfoldable pub strength_of : ℕ → ℕ
strength_of b = pick (eqb b (byte "&")) 4 (pick (eqb b (byte "^")) 3 (pick (eqb b (byte "|")) 2 (pick (eqb b (byte "=")) 1 0)))

unfoldable pub is_letter : Class → Bool
is_letter Letter = true
is_letter Digit = false
is_letter Underscore = false
is_letter Operator = false
is_letter Opening = false
is_letter Closing = false
is_letter OpeningSquare = false
is_letter ClosingSquare = false
is_letter Tab = false
is_letter Lf = false
is_letter Other = false

-- a letter, a digit or an underscore
unfoldable pub is_word_class : Class → Bool
is_word_class Letter = true
is_word_class Digit = true
is_word_class Underscore = true
is_word_class Operator = false
is_word_class Opening = false
is_word_class Closing = false
is_word_class OpeningSquare = false
is_word_class ClosingSquare = false
is_word_class Tab = false
is_word_class Lf = false
is_word_class Other = false

abbrev pub in_name : ℕ → Bool
in_name b = is_word_class (class_of b)

-- `!`, `(`, `0` or `1`, a letter, or a byte that starts no operand
unfoldable pub start_of : ℕ → Start
start_of b =
    pick (eqb b (byte "!")) Not
    (pick (eqb b (byte "(")) Group
    (pick (eqb b (byte "0")) Bit
    (pick (eqb b (byte "1")) Bit
    (pick (is_letter (class_of b)) Name Nothing))))

-- how many name bytes stand in front
unfoldable pub run : List ℕ → ℕ
run [] = 0
run (b ∷ l) = pick (in_name b) (suc (run l)) 0

-- all are letters, digits or `_`
unfoldable pub name_bytes : List ℕ → Bool
name_bytes [] = true
name_bytes (b ∷ s) = pick (in_name b) (name_bytes s) false

-- a name: a letter, then letters, digits or `_`, 1 to 15 bytes
unfoldable pub is_name : List ℕ → Bool
is_name [] = false
is_name (b ∷ s) = pick (is_letter (class_of b)) (pick (leb (length s) 14) (name_bytes s) false) false
