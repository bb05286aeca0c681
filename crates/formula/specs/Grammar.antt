-- The grammar of formulas, as readers of the bytes s from a place: each gives the tree and the place
-- past it. `!` binds tightest, then `&`, `^`, `|`, and `=` loosest; equal operators group to the left;
-- within brackets stands a whole formula again. The first argument of a reader bounds how deep its
-- calls go; `tree_of` gives it more than enough. A name, one bit of a name and two names compared each stand
-- as one operand. `Claims` says what a formula is without any reader.
-- Assumes nothing.
use Rattle.std.specs.Prelude.{ℕ, zero, suc, ◌+◌, ◌*◌, max, Bool, true, false, ◌&&◌, ◌||◌, List, ltb, leb, eqb, length, get_or, drop}
use Rattle.std.proofs.Math.Bool as bool
use Rattle.text.specs.Quoted.{byte}
use Rattle.text.specs.Numbers.{leading_digits, value_from}
use Rattle.formula.specs.Classes.{pick, class_of, is_letter, strength_of, start_of, run}
use Rattle.formula.specs.declared.Start.TheVariants.{Not, Group, Bit, Name, Nothing}

-- a name by its first place and its length; bit i of a name; two names compared; `0` or `1` by its byte;
-- `!` of a formula; a formula in brackets; two formulas joined by an operator byte
pub data Tree : Type 0 where
  name : ℕ → ℕ → Tree
  bit_of : ℕ → ℕ → (i : ℕ) → Tree
  alike : ℕ → ℕ → ℕ → ℕ → Tree
  bit : ℕ → Tree
  not : Tree → Tree
  group : Tree → Tree
  join : ℕ → Tree → Tree → Tree

-- what a reader gives: nothing of that form, or a tree and the place past it
pub data Got : Type 0 where
  failed : Got
  got : Tree → ℕ → Got

unfoldable pub and_then : Got → (Tree → ℕ → Got) → Got
and_then failed next = failed
and_then (got e to) next = next e to

-- one digit or more, of which the first is `0` only where it is the only one
unfoldable pub is_index : List ℕ → Bool
is_index ds = leb 1 (length ds) && (eqb (length ds) 1 || bool.not (eqb (get_or ds 0 0) (byte "0")))

-- after the name at `at`, n long, and `[`: the digits ds from `to` on, and `]`
unfoldable pub index_of : List ℕ → ℕ → ℕ → ℕ → List ℕ → Got
index_of s at n to ds =
    pick (is_index ds && eqb (get_or s (to + length ds) 0) (byte "]")) (got (bit_of at n (value_from 0 ds)) (to + length ds + 1)) failed

-- after the name at `at`, n long, and `==`: a name of at most 15 bytes from `to` on, m long
unfoldable pub right_of : List ℕ → ℕ → ℕ → ℕ → ℕ → Got
right_of s at n to m = pick (is_letter (class_of (get_or s to 0)) && leb m 15) (got (alike at n to m) (to + m)) failed

-- a name of at most 15 bytes from `at`, n long, and what belongs to it: `[` and an index, `==` and another
-- name, or neither
unfoldable pub name_of : List ℕ → ℕ → ℕ → Got
name_of s at n =
    pick (leb n 15)
    (pick (eqb (get_or s (at + n) 0) (byte "[")) (index_of s at n (at + n + 1) (leading_digits (drop (at + n + 1) s)))
    (pick (eqb (get_or s (at + n) 0) (byte "=") && eqb (get_or s (at + n + 1) 0) (byte "=")) (right_of s at n (at + n + 2) (run (drop (at + n + 2) s)))
    (got (name at n) (at + n))))
    failed

-- the closing bracket after a formula
unfoldable pub closed : List ℕ → Tree → ℕ → Got
closed s e to = pick (eqb (get_or s to 0) (byte ")")) (got (group e) (to + 1)) failed

unfoldable mutual
  -- `!` and an operand; a formula in brackets; `0` or `1`; a name and what belongs to it
  pub operand_of : ℕ → List ℕ → ℕ → Got
  operand_of zero s at = failed
  operand_of (suc f) s at =
      elim (start_of (get_or s at 0)) [
        | Not ↦ and_then (operand_of f s (at + 1)) (λ e to. got (not e) to)
        | Group ↦ and_then (expression_of f s 0 (at + 1)) (closed s)
        | Bit ↦ got (bit (get_or s at 0)) (at + 1)
        | Name ↦ name_of s at (run (drop at s))
        | Nothing ↦ failed
      ]

  -- an operand, and then what operators stronger than k join to it
  pub expression_of : ℕ → List ℕ → ℕ → ℕ → Got
  expression_of zero s k at = failed
  expression_of (suc f) s k at = and_then (operand_of f s at) (λ e to. rest_of f s k e to)

  -- the tree e, and, as long as an operator stronger than k follows: the operator, and what stands after
  -- it that only stronger operators join
  pub rest_of : ℕ → List ℕ → ℕ → Tree → ℕ → Got
  rest_of zero s k e at = got e at
  rest_of (suc f) s k e at =
      elim (ltb k (strength_of (get_or s at 0))) [
        | true ↦ and_then (expression_of f s (strength_of (get_or s at 0)) (at + 1)) (λ e2 to. rest_of f s k (join (get_or s at 0) e e2) to)
        | false ↦ got e at
      ]

-- the tree of a field, where it is a formula
pub data Parsed : Type 0 where
  none : Parsed
  tree : Tree → Parsed

-- nothing may be left over
unfoldable pub whole : List ℕ → Got → Parsed
whole s failed = none
whole s (got e to) = pick (eqb to (length s)) (tree e) none

-- a formula is 1 to 255 bytes; no bytes have no operand
unfoldable pub tree_of : List ℕ → Parsed
tree_of s = pick (leb (length s) 255) (whole s (expression_of (2 * length s + 1) s 0 0)) none

-- depth is the most `(` and `!` open over any one place
unfoldable pub depth_of : Tree → ℕ
depth_of (name at n) = 0
depth_of (bit_of at n i) = 0
depth_of (alike at n to m) = 0
depth_of (bit b) = 0
depth_of (not e) = depth_of e + 1
depth_of (group e) = depth_of e + 1
depth_of (join b e e2) = max (depth_of e) (depth_of e2)
