-- A text that stands at a place of a text, in one piece or in several. Assumes nothing.
use mathlib.Core.Path.{◌≡◌, refl, sym, ap, ◌∙◌}
use mathlib.Core.List.{List, [], ◌++◌, append_assoc, append-nil}
use Prim.Native.Nat.{ℕ, zero, suc, ◌+◌, ◌≤◌, ◌<◌}
use native.Mathlib.Omega.{arith}
use native.Mathlib.Decide.{dec_lt}
use lib.ListN.{length, drop, length-append}
use lib.Seq.{drop-append_seam, drop-drop, drop-length}
use Rattle.text.specs.Writer.{joined}

-- t stands at p of s, and q is the place after it
pub record At (s : List ℕ) (p : ℕ) (t : List ℕ) (q : ℕ) : Type 0 where
  pub text : drop p s ≡ t ++ drop q s
  pub place : q ≡ p + length t
  pub inside : q ≤ length s

module _ {s : List ℕ} where
  at_none : {p : ℕ} → p ≤ length s → At s p [] p
  at_none h = record { text = refl; place = omega arith; inside = h }

  pub at_join : {p q r : ℕ} {t u : List ℕ} → At s p t q → At s q u r → At s p (t ++ u) r
  at_join {p} {q} {r} {t} {u} a b =
      record {
        text = a.text ∙ ap (λ (l : List ℕ). t ++ l) b.text ∙ sym (append_assoc t u (drop r s));
        place = b.place ∙ rw length-append (omega (arith, a.place));
        inside = b.inside;
      }

  pub at_split : {p r : ℕ} (t u : List ℕ) → At s p (t ++ u) r → At s p t (p + length t) × At s (p + length t) u r
  at_split {p} {r} t u a =
      let n : r ≡ p + (length t + length u) = a.place ∙ rw length-append refl in
      let all : drop p s ≡ t ++ (u ++ drop r s) = a.text ∙ append_assoc t u (drop r s) in
      let rest : drop (p + length t) s ≡ u ++ drop r s = sym (drop-drop (length t) p s) ∙ ap (drop (length t)) all ∙ drop-append_seam t (u ++ drop r s) in (
        record { text = all ∙ ap (λ (l : List ℕ). t ++ l) (sym rest); place = refl; inside = omega (arith, a.inside) },
        record { text = rest; place = omega arith; inside = a.inside },
      )

  -- the whole of s
  pub at-whole : (t : List ℕ) → s ≡ t → At s 0 t (length s)
  at-whole t e = record { text = e ∙ sym (append-nil t) ∙ ap (λ (l : List ℕ). t ++ l) (sym none); place = ap length e ∙ omega arith; inside = omega arith }
    where
      none : drop (length s) s ≡ []
      none = drop-length s

  pub whole-at : (t : List ℕ) (q : ℕ) → At s 0 t q → q ≡ length s → s ≡ t
  whole-at t q a e = a.text ∙ ap (λ (l : List ℕ). t ++ l) (ap (λ (n : ℕ). drop n s) e ∙ drop-length s) ∙ append-nil t

  -- the rest of s
  pub at_rest : {p : ℕ} {t : List ℕ} → At s p t (length s) → t ≡ drop p s
  at_rest {p} {t} a = sym (a.text ∙ ap (λ (l : List ℕ). t ++ l) (drop-length s) ∙ append-nil t)

  -- texts one after the other
  pub at_joined : (f : ℕ → List ℕ) (P : ℕ → ℕ) (n : ℕ) → P 0 ≤ length s → ((k : ℕ) → k < n → At s (P k) (f k) (P (suc k))) → At s (P 0) (joined f n) (P n)
  at_joined f P zero h a = at_none h
  at_joined f P (suc n) h a = at_join (at_joined f P n h (λ k l. a k (omega arith))) (a n (omega arith))

  pub at-parts : (f : ℕ → List ℕ) (n p q : ℕ) → At s p (joined f n) q → (k : ℕ) → k < n → At s (p + length (joined f k)) (f k) (p + length (joined f (suc k)))
  at-parts f zero p q a k l = absurd (omega arith)
  at-parts f (suc n) p q a k l = go (at_split (joined f n) (f n) a) (dec_lt k n) (at-parts f n p (p + length (joined f n)))
    where
      go : At s p (joined f n) (p + length (joined f n)) × At s (p + length (joined f n)) (f n) q → Dec (k < n)
          → (At s p (joined f n) (p + length (joined f n)) → (j : ℕ) → j < n → At s (p + length (joined f j)) (f j) (p + length (joined f (suc j))))
          → At s (p + length (joined f k)) (f k) (p + length (joined f (suc k)))
      go w (yes h) ih = ih w.0 k h
      go w (no h) ih =
          let e : k ≡ n = omega arith in
          let m : q ≡ p + length (joined f (suc n)) = a.place in
          rw e (rw m at w.1)
