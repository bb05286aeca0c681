-- `case_at` meets its contract: a case stands after the place at which it is sought, and within the input.
-- Assumes nothing.
use Rattle.std.specs.Prelude.{◌≡◌, ℕ, ◌+◌, ◌≤◌, ◌<◌, Bool, true, false, Option, Some, None, List, length, ltb, cond, drop}
use native.Mathlib.Omega.{arith}
use mathlib.Core.Path.{refl, sym, ap, ◌∙◌}
use borrow.Author.Tests.{ltb-true}
use Rattle.text.specs.Numbers.{leading_digits, value_from, is_numeral, read_number}
use Rattle.text.specs.Lines.{line_end, line_at}
use Rattle.text.specs.declared.Line.TheVariants.{Ended, Unended, End}
use Rattle.graph_cases.proofs.case_at.Goals as goal

after : (s : List ℕ) (p v t : ℕ) → read_number s p ≡ Some (v, t) → p ≤ t
unfolding read_number
after s p v t h = by (is_numeral (leading_digits (drop p s))) h
  where
    by : (n : Bool) → cond {A = Option (ℕ × ℕ)} n (Some (value_from 0 (leading_digits (drop p s)), p + length (leading_digits (drop p s)))) None ≡ Some (v, t) → p ≤ t
    by true k =
        let e : ◌≡◌ {A = ℕ × ℕ} (value_from 0 (leading_digits (drop p s)), p + length (leading_digits (drop p s))) (v, t) = cc in
        let f = ap (λ (x : ℕ × ℕ). x.1) e in
        omega (arith, f)
    by false k = let z : ◌≡◌ {A = ℕ} 0 1 = cc in absurd (omega arith)

inside : (s : List ℕ) (p e : ℕ) → line_at s p ≡ Ended e → p < length s
unfolding line_at
inside s p e h = by (ltb p (length s)) refl h
  where
    by : (t : Bool) → ltb p (length s) ≡ t → elim t [ true ↦ elim (ltb (line_end s p) (length s)) [ true ↦ Ended (line_end s p) | false ↦ Unended ] | false ↦ End ] ≡ Ended e → p < length s
    by true q k = ltb-true p (length s) q
    by false q k = let z : ◌≡◌ {A = ℕ} 0 1 = cc in absurd (omega arith)

pub overflow_add-tab : goal.overflow_add-tab
overflow_add-tab c = omega (arith, inside c.args.input.now c.in_ok-length.tab c.in-Ended.end (sym c.line_at.ensures ∙ c.in-Ended.is))

pub returns : goal.returns
returns c =
    let t = after c.args.input.now c.args.at c.in_ok-length.length c.in_ok-length.tab (sym c.in_ok-length.ensures.value) in
    omega (arith, t, c.in_ok-label.ensures.lookup, c.in_ok-get.ensures.lookup, c.in_ok-graph.ensures.lookup)
