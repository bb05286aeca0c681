-- A number's field, as it is written from its last digit back. Assumes nothing.
use mathlib.Core.Path.{◌≡◌, sym, ap, ap₂, ◌∙◌}
use mathlib.Core.List.{List, [], ◌∷◌, ◌++◌, append_assoc}
use Prim.Native.Nat.{ℕ, ◌+◌, ◌-◌, ◌/◌, ◌%◌, ◌<◌, ◌≤◌}
use native.Mathlib.Omega.{arith}
use lib.ListN.{length, length-append}
use Rattle.text.specs.Numbers.{digits}
use Rattle.text.proofs.NumberLaws.{digits-small, digits_more}
use Rattle.session_text.specs.Fields.{blanks, right}

pub right-small : (width n : ℕ) {before : ℕ} → before ≡ width - 1 → n < 10 → right width n ≡ blanks before ++ ((48 + n % 10) ∷ [])
unfolding right
right-small width n e h = rw (e, digits-small n h)

pub right-more : (width n : ℕ) {before : ℕ} → before ≡ width - 1 → 10 ≤ n → right width n ≡ right before (n / 10) ++ ((48 + n % 10) ∷ [])
unfolding right
right-more width n {before} e h =
    let d = digits (n / 10) in
    let m : digits n ≡ d ++ ((48 + n % 10) ∷ []) = digits_more n h in
    let l : width - length (digits n) ≡ before - length d = omega (arith, ap length m, length-append d ((48 + n % 10) ∷ []), e) in
    ap₂ (λ (k : ℕ) (s : List ℕ). blanks k ++ s) l m ∙ sym (append_assoc (blanks (before - length d)) d ((48 + n % 10) ∷ []))
