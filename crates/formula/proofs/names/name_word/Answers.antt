-- `name_word` meets its contract. Assumes nothing.
use mathlib.Core.Path.{◌≡◌, ap, sym, ◌∙◌}
use mathlib.Core.List.{List}
use Rattle.std.specs.Prelude.{Option, Some, None}
use Prim.Native.Nat.{ℕ, ◌+◌, ◌*◌, ◌-◌, ◌≤◌, ◌<◌}
use native.Mathlib.Omega.{arith}
use borrow.Author.Tests.{le-leb, lt-leb, ne_eqb}
use lib.ListN.{length, get_or, drop}
use Rattle.text.specs.Numbers.{leading_digits}
use Rattle.formula.specs.declared.Start.TheVariants.{Name}
use Rattle.formula.specs.declared.names.Word.{Word}
use Rattle.formula.specs.Classes.{start_of, run}
use Rattle.formula.specs.Grammar.{index_of, right_of, name_of}
use Rattle.formula.specs.Reading.{name_word, postfix}
use Rattle.formula.specs.Private.Readers.{word_read}
use Rattle.formula.proofs.ByteLaws.{not_twice}
use Rattle.formula.proofs.Runs.{run_inside}
use Rattle.formula.proofs.Steps.{starts, inside}
use Rattle.formula.proofs.names.name_word.Goals as goal

module _ (s : List ℕ) (at end : ℕ) (ends : end ≡ at + run (drop at s)) where
  places : start_of (get_or s at 0) ≡ Name → (at < length s) × (end ≤ length s)
  places h =
      let i = starts s at Name h (omega arith) in
      (i, omega (arith, ends, run_inside s at (omega arith)))

  word : at * 16 + (end - at) ≡ name_word at (run (drop at s))
  unfolding name_word
  word = omega (arith, ends)

  long : 15 < end - at → None ≡ word_read (name_of s at (run (drop at s)))
  unfolding name_of
  long h = rw (lt-leb (run (drop at s)) 15 (omega (arith, ends)))

  module _ (short : end - at ≤ 15) (b : ℕ) (first : b ≡ get_or s end 0) where
    len : run (drop at s) ≤ 15
    len = omega (arith, ends)

    here : get_or s (at + run (drop at s)) 0 ≡ b
    here = sym (first ∙ ap (λ (x : ℕ). get_or s x 0) ends)

    index : (r : Option Word) → b ≡ 91 → r ≡ word_read (index_of s at (run (drop at s)) (end + 1) (leading_digits (drop (end + 1) s))) → r ≡ word_read (name_of s at (run (drop at s)))
    unfolding name_of
    index r e h = rw (le-leb (run (drop at s)) 15 len, here ∙ e) (rw ends at h)

    module _ (b2 : ℕ) (second : b2 ≡ get_or s (end + 1) 0) where
      next : get_or s (at + run (drop at s) + 1) 0 ≡ b2
      next = sym (second ∙ ap (λ (x : ℕ). get_or s (x + 1) 0) ends)

      two : (r : Option Word) → b ≡ 61 → b2 ≡ 61 → r ≡ word_read (right_of s at (run (drop at s)) (end + 2) (run (drop (end + 2) s))) → r ≡ word_read (name_of s at (run (drop at s)))
      unfolding name_of
      two r e e2 h = rw (le-leb (run (drop at s)) 15 len, here ∙ e, next ∙ e2) (rw ends at h)

    bare : (b ≡ 91 → ⊥) → (b ≡ 61 → get_or s (end + 1) 0 ≡ 61 → ⊥) → Some (record { next = end; word = at * 16 + (end - at) }) ≡ word_read (name_of s at (run (drop at s)))
    unfolding name_of postfix
    bare n91 n61 =
        let next : get_or s (at + run (drop at s) + 1) 0 ≡ get_or s (end + 1) 0 = sym (ap (λ (x : ℕ). get_or s (x + 1) 0) ends) in
        rw (le-leb (run (drop at s)) 15 len, here, next, ne_eqb b 91 n91, not_twice b (get_or s (end + 1) 0) n61, word, ends)

pub returns-then-len-gt-LONGEST_NAME : goal.returns-then-len-gt-LONGEST_NAME
returns-then-len-gt-LONGEST_NAME c = long _ _ _ c.name_end-end.ensures c.if-len-gt-LONGEST_NAME.true

pub overflow_mul-word : goal.overflow_mul-word
overflow_mul-word c =
    omega (arith, places c.args.s.now _ _ c.name_end-end.ensures c.requires.1, c.requires.0)

pub overflow_add-word : goal.overflow_add-word
overflow_add-word c =
    omega (arith, places c.args.s.now _ _ c.name_end-end.ensures c.requires.1, c.requires.0, c.if-len-gt-LONGEST_NAME.false)

pub overflow_cast-word : goal.overflow_cast-word
overflow_cast-word c =
    omega (arith, places c.args.s.now _ _ c.name_end-end.ensures c.requires.1, c.requires.0, c.if-len-gt-LONGEST_NAME.false)

pub overflow_add-end : goal.overflow_add-end
overflow_add-end c =
    omega (arith, places c.args.s.now _ _ c.name_end-end.ensures c.requires.1, c.requires.0)

pub bit_word-requires : goal.bit_word-requires
bit_word-requires c =
    omega (arith, places c.args.s.now _ _ c.name_end-end.ensures c.requires.1, c.requires.0, c.if-len-gt-LONGEST_NAME.false)

pub returns-then-b-eq91 : goal.returns-then-b-eq91
returns-then-b-eq91 c =
    let e = c.name_end-end.ensures in
    index _ _ _ e c.if-len-gt-LONGEST_NAME.false _ c.byte_at-b.ensures _ c.if-b-eq91.true (c.bit_word.ensures _ _ (word _ _ _ e))

pub overflow_add-end-then-b-eq61 : goal.overflow_add-end-then-b-eq61
overflow_add-end-then-b-eq61 c =
    omega (arith, places c.args.s.now _ _ c.name_end-end.ensures c.requires.1, c.requires.0)

pub overflow_add-end-then-byte_at-eq61 : goal.overflow_add-end-then-byte_at-eq61
overflow_add-end-then-byte_at-eq61 c =
    omega (arith, places c.args.s.now _ _ c.name_end-end.ensures c.requires.1, c.requires.0)

pub alike_word-requires : goal.alike_word-requires
alike_word-requires c =
    let end = c.name_end-end in
    let i = inside c.args.s.now (end.result + 1) (omega (arith, c.byte_at.ensures, c.if-byte_at-eq61.true)) in
    omega (arith, places c.args.s.now _ _ end.ensures c.requires.1, c.requires.0, c.if-len-gt-LONGEST_NAME.false)

pub returns-then-byte_at-eq61 : goal.returns-then-byte_at-eq61
returns-then-byte_at-eq61 c =
    let e = c.name_end-end.ensures in
    let short = c.if-len-gt-LONGEST_NAME.false in
    two _ _ _ e short _ c.byte_at-b.ensures _ c.byte_at.ensures _ c.if-b-eq61.true c.if-byte_at-eq61.true (c.alike_word.ensures _ _ (word _ _ _ e))

pub returns-else-byte_at-eq61 : goal.returns-else-byte_at-eq61
returns-else-byte_at-eq61 c =
    let short = c.if-len-gt-LONGEST_NAME.false in
    bare _ _ _ c.name_end-end.ensures short _ c.byte_at-b.ensures c.if-b-eq91.false (λ x y. c.if-byte_at-eq61.false (c.byte_at.ensures ∙ y))

pub returns-else-b-eq61 : goal.returns-else-b-eq61
returns-else-b-eq61 c =
    bare _ _ _ c.name_end-end.ensures c.if-len-gt-LONGEST_NAME.false _ c.byte_at-b.ensures c.if-b-eq91.false (λ x y. c.if-b-eq61.false x)
