-- `bit_word` meets its contract. Assumes nothing.
use Rattle.std.specs.Prelude.{Some, None}
use mathlib.Core.Path.{◌≡◌, refl, ap, sym, ◌∙◌}
use mathlib.Core.Bool.{Bool, true, false}
use mathlib.Core.List.{List}
use Prim.Native.Nat.{ℕ, ◌+◌, ◌*◌, ◌≤◌, min}
use native.Mathlib.Omega.{arith}
use borrow.Author.Tests.{ne_eqb}
use lib.ListN.{length, get_or, drop}
use Rattle.text.specs.Numbers.{leading_digits, value_from}
use Rattle.formula.specs.declared.names.Index.{Index}
use Rattle.formula.specs.Grammar.{is_index, index_of}
use Rattle.formula.specs.Reading.{name_word, bit_word, postfix}
use Rattle.formula.specs.Classes.{pick}
use Rattle.formula.specs.Private.Readers.{word_read, index_at}
use Rattle.formula.proofs.Steps.{inside}
use Rattle.formula.proofs.names.bit_word.Goals as goal

module _ (s : List ℕ) (at : ℕ) where
  ds : List ℕ
  ds = leading_digits (drop at s)

  module _ (i : Index) (is : Some i ≡ index_at s at) where
    -- what an index tells of its digits
    record Told : Type 0 where
      pub formed : is_index ds ≡ true
      pub value : i.value ≡ min (value_from 0 ds) 16
      pub next : i.next ≡ at + length ds

    told : Told
    unfolding ds
    told = go (is_index ds) refl is
      where
        go : (t : Bool) → is_index ds ≡ t → Some i ≡ pick t (Some (record { value = min (value_from 0 ds) 16; next = at + length ds })) None → Told
        go true e h =
            let f : i ≡ record { value = min (value_from 0 ds) 16; next = at + length ds } = cc in
            record { formed = e; value = ap (λ (x : Index). x.value) f; next = ap (λ (x : Index). x.next) f }
        go false e h = let z : ◌≡◌ {A = ℕ} 0 1 = cc in absurd (omega arith)

    small : i.value ≤ 16
    small = omega (arith, told.value)

    module _ (p n : ℕ) where
      known : {b name : ℕ} → b ≡ get_or s i.next 0 → b ≡ 93 → name ≡ name_word p n →
          Some (record { next = i.next + 1; word = 8192 * (i.value + 1) + name }) ≡ word_read (index_of s p n at (leading_digits (drop at s)))
      unfolding index_of postfix bit_word ds
      known e c h = rw (told.next, told.value, h, told.formed, sym (ap (λ (x : ℕ). get_or s x 0) told.next) ∙ sym e ∙ c)

      unclosed : {b : ℕ} → b ≡ get_or s i.next 0 → (b ≡ 93 → ⊥) → None ≡ word_read (index_of s p n at (leading_digits (drop at s)))
      unfolding index_of ds
      unclosed e c = rw (told.formed, ne_eqb (get_or s (at + length ds) 0) 93 (λ x. c (e ∙ ap (λ (y : ℕ). get_or s y 0) told.next ∙ x)))

  NoWord : ℕ → ℕ → Type 0
  NoWord p n = None ≡ word_read (index_of s p n at (leading_digits (drop at s)))

  none : None ≡ index_at s at → (p n : ℕ) → NoWord p n
  unfolding index_of ds NoWord
  none is p n = go (is_index ds) refl is
    where
      index : Index
      index = record { value = min (value_from 0 ds) 16; next = at + length ds }

      go : (t : Bool) → is_index ds ≡ t → None ≡ pick t (Some index) None → NoWord p n
      go true e h = let z : ◌≡◌ {A = ℕ} 0 1 = cc in absurd (omega arith)
      go false e h = rw e

pub returns-in_err-i : goal.returns-in_err-i
unfolding NoWord
returns-in_err-i c = λ p n h. rw c.from_residual.ensures (none c.args.s.now c.args.at c.in_err-i.ensures p n)

pub overflow_add-result : goal.overflow_add-result
overflow_add-result c =
    let i = c.in_ok-i.i in
    omega (arith, inside c.args.s.now i.next (omega (arith, c.byte_at.ensures, c.if-byte_at-eq93.true)))

pub overflow_add-result-then-byte_at-eq93 : goal.overflow_add-result-then-byte_at-eq93
overflow_add-result-then-byte_at-eq93 c = omega (arith, small c.args.s.now c.args.at c.in_ok-i.i c.in_ok-i.ensures)

pub overflow_mul-result : goal.overflow_mul-result
overflow_mul-result c = omega (arith, small c.args.s.now c.args.at c.in_ok-i.i c.in_ok-i.ensures)

pub overflow_add-result-then-byte_at-eq93-2 : goal.overflow_add-result-then-byte_at-eq93-2
overflow_add-result-then-byte_at-eq93-2 c = omega (arith, small c.args.s.now c.args.at c.in_ok-i.i c.in_ok-i.ensures, c.requires)

pub returns-then-byte_at-eq93 : goal.returns-then-byte_at-eq93
returns-then-byte_at-eq93 c = λ p n h. known c.args.s.now c.args.at c.in_ok-i.i c.in_ok-i.ensures p n c.byte_at.ensures c.if-byte_at-eq93.true h

pub returns : goal.returns
returns c = λ p n h. unclosed c.args.s.now c.args.at c.in_ok-i.i c.in_ok-i.ensures p n c.byte_at.ensures c.if-byte_at-eq93.false
