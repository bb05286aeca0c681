-- What reading a whole field answers, by what was read of it. Assumes nothing.
use mathlib.Core.Path.{◌≡◌, refl, ap, sym, ◌∙◌}
use mathlib.Core.List.{List, ◌++◌}
use Rattle.std.specs.Prelude.{Option, Some, None}
use Prim.Native.Nat.{ℕ, zero, suc, ◌+◌, ◌*◌, ◌-◌, ◌≤◌, ◌<◌}
use native.Mathlib.Omega.{arith}
use lib.ListN.{length, drop, replicate, length-replicate}
use lib.Seq.{sets, sets-eq}
use borrow.Author.Tests.{le-leb, lt-leb, eq-eqb, ne_eqb}
use Rattle.formula.specs.declared.readers.Read.{Read}
use Rattle.formula.specs.Grammar.{Got, failed, got, expression_of, depth_of, none, tree, whole, tree_of}
use Rattle.formula.specs.Reading.{postfix, padded, answer_of, formula_of}
use Rattle.formula.specs.Private.Readers.{Reads}
use Rattle.formula.proofs.Steps as steps

-- Words stored into zeros.

zeros : ℕ → List ℕ
zeros m = replicate m 0

drop-zeros : (k m : ℕ) → drop k (zeros m) ≡ zeros (m - k)
unfolding zeros
drop-zeros zero m = let e : m ≡ m - 0 = omega arith in ap zeros e
drop-zeros (suc k) zero = let e : 0 ≡ 0 - suc k = omega arith in ap zeros e
drop-zeros (suc k) (suc m) = let e : m - k ≡ suc m - suc k = omega arith in drop-zeros k m ∙ ap zeros e

stored : (m : ℕ) (ws : List ℕ) → length ws ≤ m → sets (zeros m) 0 ws ≡ ws ++ zeros (m - length ws)
unfolding zeros
stored m ws h =
    let l : 0 + length ws ≤ length (zeros m) = omega (arith, length-replicate {A = ℕ} m 0) in
    let z : 0 + length ws ≡ length ws = omega arith in
    sets-eq ws (zeros m) 0 l ∙ ap (λ (x : List ℕ). ws ++ x) (rw z (drop-zeros (length ws) m))

-- The answers.

unformed : (s : List ℕ) → tree_of s ≡ none → None ≡ formula_of s
unfolding formula_of answer_of
unformed s e = sym (ap answer_of e)

pub long : (s : List ℕ) → 255 < length s → None ≡ formula_of s
unfolding tree_of
long s h = unformed s (rw (lt-leb _ _ h, tree_of))

module _ (s before out : List ℕ) (fresh : before ≡ replicate 255 0) (short : length s ≤ 255) where
  given : Got
  given = expression_of (2 * length s + 1) s 0 0

  is_whole : tree_of s ≡ whole s given
  unfolding tree_of given
  is_whole = rw (le-leb _ _ short, tree_of)

  abbrev Is : Option Read → Type 0
  Is r = steps.Holds (2 * (length s - 0) + 1) (λ f. expression_of f s 0 0) before 0 out r

  pub not-read : Is None → None ≡ formula_of s
  unfolding Reads whole given
  not-read rd = unformed s (is_whole ∙ go given (rd (2 * length s + 1) (omega arith)))
    where
      go : (g : Got) → Reads before 0 out None g → whole s g ≡ none
      go failed x = refl
      go (got e to) x = let z : ◌≡◌ {A = ℕ} 0 1 = cc x.0 in absurd (omega arith)

  module _ (r : Read) (rd : Is (Some r)) where
    pub left_over : r.next < length s → None ≡ formula_of s
    unfolding Reads whole given
    left_over h = unformed s (is_whole ∙ go given (rd (2 * length s + 1) (omega arith)))
      where
        go : (g : Got) → Reads before 0 out (Some r) g → whole s g ≡ none
        go failed x = refl
        go (got e to) x =
            let t = (steps.fields x.0).0 in
            let n : to ≡ length s → ⊥ = λ y. omega (arith, y, t) in
            rw (ne_eqb _ _ n, whole)

    pub all_read : r.next ≡ length s → r.count ≤ 255 → Some (record { depth = r.depth; count = r.count; words = out }) ≡ formula_of s
    unfolding Reads whole formula_of answer_of padded zeros given
    all_read h k = go given refl (rd (2 * length s + 1) (omega arith))
      where
        go : (g : Got) → given ≡ g → Reads before 0 out (Some r) g → Some (record { depth = r.depth; count = r.count; words = out }) ≡ formula_of s
        go failed y x = let z : ◌≡◌ {A = ℕ} 0 1 = cc x in absurd (omega arith)
        go (got e to) y x =
            let f = steps.fields x.0 in
            let t : to ≡ length s = f.0 ∙ h in
            let c2 : r.count ≡ length (postfix e) = omega (arith, f.1) in
            let d : r.depth ≡ depth_of e = sym f.2 in
            let w : out ≡ postfix e ++ replicate (255 - length (postfix e)) 0 =
            x.1 ∙ ap (λ (l : List ℕ). sets l 0 (postfix e)) fresh ∙ stored 255 (postfix e) (omega arith) in
            let f : tree_of s ≡ tree e = is_whole ∙ ap (whole s) y ∙ rw (eq-eqb _ _ t, whole) in
            rw (c2, d, w) (sym (ap answer_of f))
