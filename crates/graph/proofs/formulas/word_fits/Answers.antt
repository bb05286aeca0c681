-- `graph::formulas::word_fits` meets its contract. Assumes nothing.
use Prim.Native.Nat.{◌≤◌, ◌<◌}
use mathlib.Core.Path.{sym}
use mathlib.Core.Logic.{◌⊎◌, inl, inr, ⊎_elim}
use native.Mathlib.Omega.{arith}
use borrow.Author.Tests.{ltb-true}
use Rattle.graph.proofs.WordLaws.{fits_byte, name-found, bit-found, alike-found, left-missing, right-missing}
use Rattle.graph.proofs.formulas.word_fits.Goals as goal

pub returns-then-w-lt-BITS : goal.returns-then-w-lt-BITS
returns-then-w-lt-BITS c = sym (fits_byte _ _ _ c.if-w-ge-NAMES.true (ltb-true _ 8192 c.if-w-lt-BITS.true-raw))

pub returns-in_default : goal.returns-in_default
returns-in_default c =
    let w = c.args.w in
    let names : (w < 4096) ⊎ (8192 ≤ w) = ⊎_elim (λ x. inr x.1) (λ x. inl x) c.else-w-ge-NAMES.either in
    right-missing _ _ w c.found_in.ensures names c.in_default.is

pub returns-then-w-lt-NAMES : goal.returns-then-w-lt-NAMES
returns-then-w-lt-NAMES c = name-found _ _ _ c.found_in.ensures c.in-Some.is c.if-w-lt-NAMES.true

pub overflow_sub-result : goal.overflow_sub-result
overflow_sub-result c =
    let w = c.args.w in
    let l : 8192 ≤ w = ⊎_elim (λ x. x.1) (λ x. absurd (omega (arith, x, c.if-w-lt-NAMES.false))) c.else-w-ge-NAMES.either in
    omega arith

pub returns-then-w-lt-ALIKE : goal.returns-then-w-lt-ALIKE
returns-then-w-lt-ALIKE c =
    let w = c.args.w in
    let l : 8192 ≤ w = ⊎_elim (λ x. x.1) (λ x. absurd (omega (arith, x, c.if-w-lt-NAMES.false))) c.else-w-ge-NAMES.either in
    bit-found _ _ w c.found_in.ensures c.in-Some.is l c.if-w-lt-ALIKE.true

pub returns-in_default-found_in : goal.returns-in_default-found_in
returns-in_default-found_in c = left-missing _ _ _ c.found_in.ensures c.in-Some.is c.if-w-lt-ALIKE.false c.found_in-2.ensures c.in_default-found_in.is

pub returns : goal.returns
returns c = alike-found _ _ _ c.found_in.ensures c.in-Some.is c.if-w-lt-ALIKE.false c.found_in-2.ensures c.in-Some-found_in.is
