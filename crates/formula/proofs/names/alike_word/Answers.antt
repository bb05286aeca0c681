-- `alike_word` meets its contract. Assumes nothing.
use mathlib.Core.Path.{◌≡◌, ap, sym, ◌∙◌}
use mathlib.Core.Bool.{Bool, true, false}
use mathlib.Core.List.{List}
use Rattle.std.specs.Prelude.{Some, None}
use Prim.Native.Nat.{ℕ, ◌+◌, ◌*◌, ◌-◌, ◌≤◌, ◌<◌}
use native.Mathlib.Omega.{arith}
use borrow.Author.Tests.{le-leb, lt-leb}
use lib.ListN.{get_or, drop}
use Rattle.formula.specs.Classes.{class_of, is_letter, run}
use Rattle.formula.specs.Grammar.{right_of}
use Rattle.formula.specs.Reading.{name_word, alike_word, postfix}
use Rattle.formula.specs.Private.Readers.{word_read}
use Rattle.formula.proofs.names.alike_word.Goals as goal

module _ (s : List ℕ) (p n at end : ℕ) (ends : end ≡ at + run (drop at s)) where
  known : is_letter (class_of (get_or s at 0)) ≡ true → end - at ≤ 15 →
      (name : ℕ) → name ≡ name_word p n → Some (record { next = end; word = 16777216 + 4096 * name + (at * 16 + (end - at)) }) ≡ word_read (right_of s p n at (run (drop at s)))
  unfolding right_of postfix alike_word name_word
  known letter short name h =
      let len : run (drop at s) ≡ end - at = omega (arith, ends) in
      let to : at + (end - at) ≡ end = omega (arith, ends) in
      rw (letter, len, le-leb (end - at) 15 short, h, to)

  long : is_letter (class_of (get_or s at 0)) ≡ true → 15 < end - at → None ≡ word_read (right_of s p n at (run (drop at s)))
  unfolding right_of
  long letter h = rw (letter, lt-leb (run (drop at s)) 15 (omega (arith, ends)))

  none : is_letter (class_of (get_or s at 0)) ≡ false → None ≡ word_read (right_of s p n at (run (drop at s)))
  unfolding right_of
  none letter = rw letter

seen : {b d : ℕ} {r t : Bool} → b ≡ d → r ≡ is_letter (class_of b) → r ≡ t → is_letter (class_of d) ≡ t
seen e f g = sym (ap (λ (x : ℕ). is_letter (class_of x)) e) ∙ sym f ∙ g

pub returns-then-len-le-LONGEST_NAME : goal.returns-then-len-le-LONGEST_NAME
returns-then-len-le-LONGEST_NAME c =
    let letter = seen c.byte_at.ensures c.is_letter.ensures c.if-is_letter.true in
    λ p n h. known _ p n _ _ c.name_end-end.ensures letter c.if-len-le-LONGEST_NAME.true _ h

pub returns-else-len-le-LONGEST_NAME : goal.returns-else-len-le-LONGEST_NAME
returns-else-len-le-LONGEST_NAME c =
    let letter = seen c.byte_at.ensures c.is_letter.ensures c.if-is_letter.true in
    λ p n h. long _ p n _ _ c.name_end-end.ensures letter c.if-len-le-LONGEST_NAME.false

pub returns-else-is_letter : goal.returns-else-is_letter
returns-else-is_letter c =
    let letter = seen c.byte_at.ensures c.is_letter.ensures c.if-is_letter.false in
    λ p n h. none _ p n _ _ c.name_end-end.ensures letter
