-- What an option turned into a result tells, and what a result with another error. Assumes nothing.
use Rattle.std.specs.Prelude.{◌≡◌, ℕ, Bool, true, false, not, Option, Some, None, is_some, Result, Ok, Err, ok_or, MatchResult, IsErrAnd}
use mathlib.Core.Path.{refl, sym, subst, ◌∙◌}
use Rattle.std.proofs.lemmas.Result.{err_from_is_err_and}
use native.Mathlib.Omega.{arith}

module _ {A E : Type 0} where
  pub refused_none : (o : Option A) {e f : E} {r : Result A E} → r ≡ ok_or o e → r ≡ Err f → (o ≡ None) × (f ≡ e)
  refused_none None {e} {f} h k = let p : ◌≡◌ {A = Result A E} (Err f) (Err e) = cc in (refl, cc)
  refused_none (Some x) h k = let z : ◌≡◌ {A = ℕ} 0 1 = cc in absurd (omega arith)

  pub taken_some : (o : Option A) (e : E) {x : A} {r : Result A E} → r ≡ ok_or o e → r ≡ Ok x → o ≡ Some x
  taken_some None e h k = let z : ◌≡◌ {A = ℕ} 0 1 = cc in absurd (omega arith)
  taken_some (Some y) e {x} h k = let p : ◌≡◌ {A = Result A E} (Ok x) (Ok y) = cc in let q : x ≡ y = cc in rw q

pub none-not : {A : Type 0} (o : Option A) {t : Bool} → is_some o ≡ not t → t ≡ true → is_some o ≡ false
none-not o h k = rw k at h

pub some-not : {A : Type 0} (o : Option A) {t : Bool} → is_some o ≡ not t → t ≡ false → is_some o ≡ true
some-not o h k = rw k at h

module _ {A E F : Type 0} where
  pub mapped_ok : (x : Result A E) {y : Result A F} (P : E → F → Type 0) {a : A} → MatchResult x (λ b. y ≡ Ok b) (λ e. IsErrAnd y (P e)) → y ≡ Ok a → x ≡ Ok a
  mapped_ok (Ok b) {y} P {a} h k = let p : ◌≡◌ {A = Result A F} (Ok a) (Ok b) = sym k ∙ h in let q : a ≡ b = cc in rw q
  mapped_ok (Err e) {y} P h k = let p = err_from_is_err_and y h in let z : ◌≡◌ {A = ℕ} 0 1 = cc (k, p.1) in absurd (omega arith)

  pub mapped_err : (x : Result A E) {y : Result A F} (P : E → F → Type 0) {f : F} → MatchResult x (λ b. y ≡ Ok b) (λ e. IsErrAnd y (P e)) → y ≡ Err f → (e : E) × (x ≡ Err e) × P e f
  mapped_err (Ok b) {y} P h k = let z : ◌≡◌ {A = ℕ} 0 1 = cc (h, k) in absurd (omega arith)
  mapped_err (Err e) {y} P {f} h k =
      let p = err_from_is_err_and y h in
      let q : ◌≡◌ {A = Result A F} (Err p.0) (Err f) = sym p.1 ∙ k in
      let r : p.0 ≡ f = cc in
      (e, refl, subst (P e) r p.2)
