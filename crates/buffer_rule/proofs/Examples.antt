-- The pages of inputs: the text for one stroke, the text for each number of strokes, and what is refused. Assumes nothing.
use mathlib.Core.Path.{◌≡◌, refl, sym, ap, ◌∙◌}
use mathlib.Core.List.{List, [], ◌∷◌, ◌++◌, map}
use Prim.Native.Nat.{ℕ, ◌+◌, ◌≤◌}
use native.Mathlib.Omega.{arith}
use borrow.Author.Tests.{le-leb}
use lib.ListN.{length, get_or, length-append, replicate}
use lib.Seq.{get_or-append-add}
use Rattle.text.specs.Quoted.{bytes}
use Rattle.text.specs.Numbers.{digits_of, digits, is_digit, leading_digits, value_from, is_numeral, read_number}
use Rattle.text.proofs.ReadBack.{reads-digits}
use Rattle.page_text.specs.Lines.{field, refused_line}
use Rattle.buffer_text.specs.Text.{heading, vertex_line, start_line, edge_line, count_lines, buffer_text}
use Rattle.buffer_graph.specs.Write.{refusal_of, is_inside}
use Rattle.buffer_rule.specs.Page.{line_number, strokes_of, strokes_page, rule_text}
use Rattle.buffer_rule.proofs.StrokesLaws.{a-line}

one : rule_text (bytes "1\n")
    ≡ bytes "S\treset\nS\tenq\nS\tdeq\nS\tempty\nS\tfull\nV\ts\nV\tn0\nV\tn1\n"
    ++ bytes "E\ts\tn0\tt\treset\t1\nE\tn0\tn1\tt\tenq\tempty&!full\nE\tn0\tn0\tt\t!enq\tempty&!full\n"
    ++ bytes "E\tn1\tn0\tt\tdeq\t!empty&full\nE\tn1\tn1\tt\t!deq\t!empty&full\n"
unfolding digits_of digits is_digit leading_digits value_from is_numeral read_number heading vertex_line start_line edge_line count_lines buffer_text is_inside line_number strokes_of strokes_page rule_text
one = refl

-- ---- each number from 1 to 40, as it is written
module _ (k : ℕ) (some : 1 ≤ k) (few : k ≤ 40) where
  said : strokes_of (digits k ++ bytes "\n") ≡ k
  unfolding is_digit
  said =
      let lf : List ℕ = bytes "\n" in
      let line : List ℕ = digits k ++ lf in
      let end : 0 + length (digits k) ≡ length (digits k) + 0 = omega arith in
      sym (a-line line (reads-digits k [] lf (omega arith) refl) (ap (λ (p : ℕ). get_or line p 0) end ∙ get_or-append-add (digits k) lf 0 0) (omega (arith, length-append (digits k) lf)))

  each : rule_text (digits k ++ bytes "\n") ≡ buffer_text k
  unfolding is_inside strokes_page rule_text
  each = rw (said, le-leb 1 k some, le-leb k 40 few)

-- ---- what is refused
abbrev refusals : ℕ → List (List ℕ)
refusals n = replicate n (bytes "refused\t20\t0\n")

-- no numeral at the start
no_number : map rule_text (bytes "" ∷ bytes "\n" ∷ bytes "x\n" ∷ bytes "-1\n" ∷ bytes " 4\n" ∷ bytes "01\n" ∷ bytes "100000\n" ∷ []) ≡ refusals 7
unfolding digits_of digits is_digit leading_digits value_from is_numeral read_number field refused_line refusal_of is_inside line_number strokes_of strokes_page rule_text
no_number = refl

-- not just an LF after it
no_line_lem : map rule_text (bytes "40" ∷ bytes "4 \n" ∷ bytes "4\r\n" ∷ bytes "4.0\n" ∷ bytes "40\n\n" ∷ []) ≡ refusals 5
unfolding digits_of digits is_digit leading_digits value_from is_numeral read_number field refused_line refusal_of is_inside line_number strokes_of strokes_page rule_text
no_line_lem = refl

-- no number from 1 to 40
outside : map rule_text (bytes "0\n" ∷ bytes "41\n" ∷ bytes "99999\n" ∷ []) ≡ refusals 3
unfolding digits_of digits is_digit leading_digits value_from is_numeral read_number field refused_line refusal_of is_inside line_number strokes_of strokes_page rule_text
outside = refl
