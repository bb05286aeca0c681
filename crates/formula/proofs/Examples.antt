-- Worked examples under the definitions. Assumes nothing.
use mathlib.Core.Path.{◌≡◌, refl}
use mathlib.Core.Bool.{true, false}
use mathlib.Core.List.{List, [], ◌∷◌, ◌++◌}
use Rattle.std.specs.Prelude.{Option, Some, None}
use Rattle.formula.specs.declared.Formula.{Formula}
use Prim.Native.Nat.{ℕ, ◌+◌, ◌*◌}
use lib.ListN.{replicate}
use Rattle.text.specs.Quoted.{byte, bytes}
use Rattle.text.specs.Numbers.{is_digit, leading_digits, value_from}
use Rattle.formula.specs.declared.Class.TheVariants.{Other, OpeningSquare, ClosingSquare}
use Rattle.formula.specs.Classes.{class_of, strength_of, is_letter, is_word_class, start_of, run, name_bytes, is_name}
use Rattle.formula.specs.Grammar.{name, bit_of, alike, bit, not, group, join, and_then, is_index, index_of, right_of, name_of, closed, expression_of, none, tree, whole, tree_of, depth_of}
use Rattle.formula.specs.Reading.{name_word, bit_word, alike_word, byte_word, postfix, padded, answer_of, formula_of}

depth : Option Formula → ℕ
depth None = 0
depth (Some f) = f.depth

words_of : Option Formula → List ℕ
words_of None = []
words_of (Some f) = f.words

-- n bytes `b`
abbrev of : ℕ → ℕ → List ℕ
of n b = replicate n b

record Examples : Type 0 where
  -- each operator beside the next looser one, on either side
  xor-and : tree_of (bytes "p^q&r") ≡ tree (join (byte "^") (name 0 1) (join (byte "&") (name 2 1) (name 4 1)))
  and_xor : tree_of (bytes "p&q^r") ≡ tree (join (byte "^") (join (byte "&") (name 0 1) (name 2 1)) (name 4 1))
  or-xor : tree_of (bytes "p|q^r") ≡ tree (join (byte "|") (name 0 1) (join (byte "^") (name 2 1) (name 4 1)))
  xor-or : tree_of (bytes "p^q|r") ≡ tree (join (byte "|") (join (byte "^") (name 0 1) (name 2 1)) (name 4 1))
  equals-or : tree_of (bytes "p=q|r") ≡ tree (join (byte "=") (name 0 1) (join (byte "|") (name 2 1) (name 4 1)))
  or-equals : tree_of (bytes "p|q=r") ≡ tree (join (byte "=") (join (byte "|") (name 0 1) (name 2 1)) (name 4 1))
  -- and beside others
  or-and : tree_of (bytes "p|q&r") ≡ tree (join (byte "|") (name 0 1) (join (byte "&") (name 2 1) (name 4 1)))
  equals-xor : tree_of (bytes "p=q^r") ≡ tree (join (byte "=") (name 0 1) (join (byte "^") (name 2 1) (name 4 1)))
  not-and : tree_of (bytes "!p&q") ≡ tree (join (byte "&") (not (name 1 1)) (name 3 1))
  -- equal operators
  and_left : tree_of (bytes "p&q&r") ≡ tree (join (byte "&") (join (byte "&") (name 0 1) (name 2 1)) (name 4 1))
  xor-left : tree_of (bytes "p^q^r") ≡ tree (join (byte "^") (join (byte "^") (name 0 1) (name 2 1)) (name 4 1))
  or_left : tree_of (bytes "p|q|r") ≡ tree (join (byte "|") (join (byte "|") (name 0 1) (name 2 1)) (name 4 1))
  equals-left : tree_of (bytes "p=q=r") ≡ tree (join (byte "=") (join (byte "=") (name 0 1) (name 2 1)) (name 4 1))
  mixed : tree_of (bytes "!(a&b)^(c|d_1)=0")
      ≡ tree
      (join (byte "=")
      (join (byte "^") (not (group (join (byte "&") (name 2 1) (name 4 1)))) (group (join (byte "|") (name 8 1) (name 10 3))))
      (bit (byte "0")))
  opening_square : class_of (byte "[") ≡ OpeningSquare
  closing_square : class_of (byte "]") ≡ ClosingSquare
  between_squares : class_of (byte "\\") ≡ Other
  -- one bit of a name; two names compared, which no operator parts
  bit-zero : tree_of (bytes "a[0]") ≡ tree (bit_of 0 1 0)
  bit_twelve : tree_of (bytes "a[12]") ≡ tree (bit_of 0 1 12)
  two-names : tree_of (bytes "a==b") ≡ tree (alike 0 1 3 1)
  not-two : tree_of (bytes "!a==b") ≡ tree (not (alike 1 1 4 1))
  equals-two : tree_of (bytes "p=a==b") ≡ tree (join (byte "=") (name 0 1) (alike 2 1 5 1))
  two-equals : tree_of (bytes "a==b=p") ≡ tree (join (byte "=") (alike 0 1 3 1) (name 5 1))
  two-and-two : tree_of (bytes "a==b&c==j") ≡ tree (join (byte "&") (alike 0 1 3 1) (alike 5 1 8 1))
  -- an index is digits without a leading zero; only a name has bits; only two names are compared so
  zeros : tree_of (bytes "a[00]") ≡ none
  leading_zero : tree_of (bytes "a[01]") ≡ none
  no_index : tree_of (bytes "a[]") ≡ none
  unclosed : tree_of (bytes "a[0") ≡ none
  letter_index : tree_of (bytes "a[p]") ≡ none
  blank_index : tree_of (bytes "a[ 0]") ≡ none
  bit_of-bit : tree_of (bytes "1[0]") ≡ none
  bit_of-group : tree_of (bytes "(a)[0]") ≡ none
  bit_twice : tree_of (bytes "a[0][0]") ≡ none
  bit-left : tree_of (bytes "a[0]==b") ≡ none
  bit-right : tree_of (bytes "a==b[0]") ≡ none
  group-left : tree_of (bytes "(a)==b") ≡ none
  group-right : tree_of (bytes "a==(b)") ≡ none
  one_right : tree_of (bytes "a==1") ≡ none
  not_right : tree_of (bytes "a==!b") ≡ none
  three_names : tree_of (bytes "a==b==c") ≡ none
  three_equals : tree_of (bytes "a===b") ≡ none
  no_right : tree_of (bytes "a==") ≡ none
  no_left : tree_of (bytes "==a") ≡ none
  -- 15 and 16 bytes `a` on either side
  left_15 : tree_of (of 15 (byte "a") ++ bytes "==b") ≡ tree (alike 0 15 17 1)
  left_16 : tree_of (of 16 (byte "a") ++ bytes "==b") ≡ none
  right_15 : tree_of (bytes "b==" ++ of 15 (byte "a")) ≡ tree (alike 0 1 3 15)
  right_16 : tree_of (bytes "b==" ++ of 16 (byte "a")) ≡ none
  -- bit 15 is the last that a name may have; 16 and 99 are past all
  bit_15 : postfix (bit_of 6 1 15) ≡ (8192 * 16 + 97) ∷ []
  bit_16 : postfix (bit_of 6 1 16) ≡ (8192 * 17 + 97) ∷ []
  bit_99 : postfix (bit_of 6 1 99) ≡ (8192 * 17 + 97) ∷ []
  -- the left name before the right
  alike_words : postfix (alike 0 1 3 2) ≡ (16777216 + 4096 * 1 + 50) ∷ []
  no_number : tree_of (bytes "10") ≡ none
  no_bytes : tree_of [] ≡ none
  -- 15 and 16 bytes `a`
  name_15 : tree_of (of 15 (byte "a")) ≡ tree (name 0 15)
  name_16 : tree_of (of 16 (byte "a")) ≡ none
  is_name_15 : is_name (of 15 (byte "a")) ≡ true
  is_name_16 : is_name (of 16 (byte "a")) ≡ false
  -- 16 and 17 `!` before p
  depth_16 : depth (formula_of (of 16 (byte "!") ++ bytes "p")) ≡ 16
  depth_17 : depth (formula_of (of 17 (byte "!") ++ bytes "p")) ≡ 17
  depth_5 : depth (formula_of (bytes "!(!((p)))")) ≡ 5
  -- an index and `==` add none
  depth_bit : depth (formula_of (bytes "!a[0]")) ≡ 1
  depth_two : depth (formula_of (bytes "!a==b")) ≡ 1
  words : words_of (formula_of (bytes "a|!b")) ≡ (name_word 0 1 ∷ name_word 3 1 ∷ byte_word (byte "!") ∷ byte_word (byte "|") ∷ []) ++ of 251 0

examples : Examples
unfolding depth words_of formula_of answer_of padded postfix bit_word alike_word name_word tree_of whole expression_of and_then is_digit leading_digits value_from is_index index_of right_of name_of closed class_of strength_of is_letter is_word_class start_of run name_bytes is_name depth_of
examples =
    record {
      xor-and = refl;
      and_xor = refl;
      or-xor = refl;
      xor-or = refl;
      equals-or = refl;
      or-equals = refl;
      or-and = refl;
      equals-xor = refl;
      not-and = refl;
      and_left = refl;
      xor-left = refl;
      or_left = refl;
      equals-left = refl;
      mixed = refl;
      bit-zero = refl;
      bit_twelve = refl;
      two-names = refl;
      not-two = refl;
      equals-two = refl;
      two-equals = refl;
      two-and-two = refl;
      zeros = refl;
      leading_zero = refl;
      no_index = refl;
      unclosed = refl;
      letter_index = refl;
      blank_index = refl;
      bit_of-bit = refl;
      bit_of-group = refl;
      bit_twice = refl;
      bit-left = refl;
      bit-right = refl;
      group-left = refl;
      group-right = refl;
      one_right = refl;
      not_right = refl;
      three_names = refl;
      three_equals = refl;
      no_right = refl;
      no_left = refl;
      left_15 = refl;
      left_16 = refl;
      right_15 = refl;
      right_16 = refl;
      bit_15 = refl;
      bit_16 = refl;
      bit_99 = refl;
      alike_words = refl;
      opening_square = refl;
      closing_square = refl;
      between_squares = refl;
      no_number = refl;
      no_bytes = refl;
      name_15 = refl;
      name_16 = refl;
      is_name_15 = refl;
      is_name_16 = refl;
      depth_16 = refl;
      depth_17 = refl;
      depth_5 = refl;
      depth_bit = refl;
      depth_two = refl;
      words = refl;
    }
