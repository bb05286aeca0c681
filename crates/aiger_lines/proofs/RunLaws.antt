-- Lines one after the other are read just where each is, and then the end of the text. Assumes nothing.
use mathlib.Core.Path.{◌≡◌, refl, sym, ap, ◌∙◌}
use mathlib.Core.Bool.{Bool, true, false, cond}
use mathlib.Core.List.{List, [], ◌∷◌, ◌++◌, append_assoc, append-nil}
use Prim.Native.Nat.{ℕ, zero, suc, ◌+◌, ◌<◌}
use native.Mathlib.Nat.{add-zero}
use native.Mathlib.Omega.{arith}
use borrow.Author.Tests.{eqb-true, eq-eqb, ne_eqb}
use lib.Dec.{eqb}
use lib.ListN.{length}
use Rattle.text.specs.Writer.{joined}
use Rattle.aiger_lines.specs.declared.Fault.{Fault}
use Rattle.aiger_lines.specs.declared.Fault.TheVariants.{WrongShape}
use Rattle.aiger_lines.specs.Lines.{Row, row, fault}
use Rattle.aiger_lines.specs.Blocks.{Rows, rows, failed, behind, and_then, on_row, rows_of, end_of}
use Rattle.aiger_lines.specs.Heads.{Heading, heading, misheaded, on_head}

pub failed-rows : {e : Fault} {line : ℕ} {ns : List ℕ} {f q : ℕ} → failed e line ≡ rows ns f q → ⊥
failed-rows h = let z : ◌≡◌ {A = ℕ} 0 1 = cc in omega arith

-- numbers in front, and lines and then others, that were read
pub behind-rows : (R : Type 0) (ns : List ℕ) (x : Rows) (ms : List ℕ) (f q : ℕ) → behind ns x ≡ rows ms f q → ((ks : List ℕ) → x ≡ rows ks f q → ms ≡ ns ++ ks → R) → R
unfolding behind
behind-rows R ns (rows ks g r) ms f q h k =
    let a : ns ++ ks ≡ ms = cc in
    let b : g ≡ f = cc in
    let c : r ≡ q = cc in
    k ks (rw (b, c)) (sym a)
behind-rows R ns (failed e line) ms f q h k = absurd (failed-rows h)

pub then_rows : (R : Type 0) (x : Rows) (next : ℕ → ℕ → Rows) (ms : List ℕ) (f q : ℕ) → and_then x next ≡ rows ms f q
    → ((ns : List ℕ) (g r : ℕ) (ks : List ℕ) → x ≡ rows ns g r → next g r ≡ rows ks f q → ms ≡ ns ++ ks → R) → R
unfolding and_then
then_rows R (rows ns g r) next ms f q h k = behind-rows R ns (next g r) ms f q h (λ ks a b. k ns g r ks refl a b)
then_rows R (failed e line) next ms f q h k = absurd (failed-rows h)

-- a header, and then lines, that were read
pub head_rows : (R : Type 0) (x : Heading) (body : ℕ → ℕ → ℕ → ℕ → ℕ → ℕ → Rows) (ns : List ℕ) (f q : ℕ) → on_head x body ≡ rows ns f q
    → ((m i l o a r : ℕ) (ks : List ℕ) → x ≡ heading m i l o a r → body m i l o a r ≡ rows ks f q → ns ≡ m ∷ i ∷ l ∷ o ∷ a ∷ ks → R) → R
unfolding on_head
head_rows R (heading m i l o a r) body ns f q h k = behind-rows R (m ∷ i ∷ l ∷ o ∷ a ∷ []) (body m i l o a r) ns f q h (λ ks x n. k m i l o a r ks refl x n)
head_rows R (misheaded e) body ns f q h k = absurd (failed-rows h)

-- the first text of several
pub joined-front : (N : ℕ → List ℕ) (n : ℕ) → joined N (suc n) ≡ N 0 ++ joined (λ k. N (suc k)) n
joined-front N zero = sym (append-nil (N 0))
joined-front N (suc n) = ap (λ (l : List ℕ). l ++ N (suc n)) (joined-front N n) ∙ append_assoc (N 0) (joined (λ k. N (suc k)) n) (N (suc n))

-- the states before and after each line, and the numbers of each
pub record Run (at : ℕ → ℕ → ℕ → Row) (count from f p : ℕ) (ns : List ℕ) (f' q : ℕ) : Type 0 where
  pub F : ℕ → ℕ
  pub P : ℕ → ℕ
  pub N : ℕ → List ℕ
  pub first-free : F 0 ≡ f
  pub first-place : P 0 ≡ p
  pub last-free : F count ≡ f'
  pub last-place : P count ≡ q
  pub numbers : ns ≡ joined N count
  pub steps : (k : ℕ) → k < count → at (from + k) (F k) (P k) ≡ row (N k) (F (suc k)) (P (suc k))

-- a first one, and then the others
abbrev ahead : {A : Type 0} → A → (ℕ → A) → ℕ → A
ahead a g zero = a
ahead a g (suc k) = g k

module _ (at : ℕ → ℕ → ℕ → Row) where
  run_none : (from f p : ℕ) (ns : List ℕ) (f' q : ℕ) → rows [] f p ≡ rows ns f' q → Run at 0 from f p ns f' q
  run_none from f p ns f' q h =
      let a : ◌≡◌ {A = List ℕ} [] ns = cc in
      record {
        F = λ _. f;
        P = λ _. p;
        N = λ _. [];
        first-free = refl;
        first-place = refl;
        last-free = cc;
        last-place = cc;
        numbers = sym a;
        steps = λ k l. absurd (omega arith);
      }

  run_more : (count from f p : ℕ) (ms : List ℕ) (g r : ℕ) (ks : List ℕ) (ns : List ℕ) (f' q : ℕ) → at from f p ≡ row ms g r → Run at count (from + 1) g r ks f' q → ns ≡ ms ++ ks → Run at (suc count) from f p ns f' q
  run_more count from f p ms g r ks ns f' q h t e =
      record {
        F = ahead f t.F;
        P = ahead p t.P;
        N = ahead ms t.N;
        first-free = refl;
        first-place = refl;
        last-free = t.last-free;
        last-place = t.last-place;
        numbers = e ∙ ap (λ (l : List ℕ). ms ++ l) t.numbers ∙ sym (joined-front (ahead ms t.N) count);
        steps = go;
      }
    where
      go : (k : ℕ) → k < suc count → at (from + k) (ahead f t.F k) (ahead p t.P k) ≡ row (ahead ms t.N k) (t.F k) (t.P k)
      go zero l = rw (add-zero, t.first-free, t.first-place) h
      go (suc k) l =
          let n : from + suc k ≡ from + 1 + k = omega arith in
          rw n (t.steps k (omega arith))

  on_run_lem : (count from line f p : ℕ) (ns : List ℕ) (f' q : ℕ) (x : Row) → at from f p ≡ x
      → ((line g r : ℕ) (ks : List ℕ) → rows_of at count (from + 1) line g r ≡ rows ks f' q → Run at count (from + 1) g r ks f' q)
      → on_row x (λ ms g r. behind ms (rows_of at count (from + 1) (line + 1) g r)) (λ e. failed e line) ≡ rows ns f' q → Run at (suc count) from f p ns f' q
  unfolding on_row
  on_run_lem count from line f p ns f' q (row ms g r) e ih h =
      behind-rows _ ms (rows_of at count (from + 1) (line + 1) g r) ns f' q h (λ ks a b. run_more count from f p ms g r ks ns f' q e (ih (line + 1) g r ks a) b)
  on_run_lem count from line f p ns f' q (fault x) e ih h = absurd (failed-rows h)

  -- SOUND
  pub run_of : (count from line f p : ℕ) (ns : List ℕ) (f' q : ℕ) → rows_of at count from line f p ≡ rows ns f' q → Run at count from f p ns f' q
  unfolding rows_of
  run_of zero from line f p ns f' q h = run_none from f p ns f' q h
  run_of (suc count) from line f p ns f' q h = on_run_lem count from line f p ns f' q (at from f p) refl (λ line g r ks a. run_of count (from + 1) line g r ks f' q a) h

  -- COMPLETE
  pub of_run : (F P : ℕ → ℕ) (N : ℕ → List ℕ) (count from line : ℕ) → ((k : ℕ) → k < count → at (from + k) (F k) (P k) ≡ row (N k) (F (suc k)) (P (suc k)))
      → rows_of at count from line (F 0) (P 0) ≡ rows (joined N count) (F count) (P count)
  unfolding rows_of on_row behind
  of_run F P N zero from line h = refl
  of_run F P N (suc count) from line h =
      let first : at from (F 0) (P 0) ≡ row (N 0) (F 1) (P 1) = rw add-zero at (h 0 (omega arith)) in
      let rest = of_run (λ k. F (suc k)) (λ k. P (suc k)) (λ k. N (suc k)) count (from + 1) (line + 1) (λ k l. next k l) in
      rw (first, rest, joined-front N count)
    where
      next : (k : ℕ) → k < count → at (from + 1 + k) (F (suc k)) (P (suc k)) ≡ row (N (suc k)) (F (suc (suc k))) (P (suc (suc k)))
      next k l = let n : from + 1 + k ≡ from + suc k = omega arith in rw n (h (suc k) (omega arith))

  -- FAULTY: k lines that are read, and then one with a fault
  pub fault-run : (F P : ℕ → ℕ) (N : ℕ → List ℕ) (e : Fault) (k count from line : ℕ) → k < count
      → ((j : ℕ) → j < k → at (from + j) (F j) (P j) ≡ row (N j) (F (suc j)) (P (suc j)))
      → at (from + k) (F k) (P k) ≡ fault e → rows_of at count from line (F 0) (P 0) ≡ failed e (line + k)
  unfolding rows_of on_row behind
  fault-run F P N e k zero from line l h g = absurd (omega arith)
  fault-run F P N e zero (suc count) from line l h g =
      let first : at from (F 0) (P 0) ≡ fault e = rw add-zero at g in
      rw (first, add-zero)
  fault-run F P N e (suc k) (suc count) from line l h g =
      let first : at from (F 0) (P 0) ≡ row (N 0) (F 1) (P 1) = rw add-zero at (h 0 (omega arith)) in
      let m : from + 1 + k ≡ from + suc k = omega arith in
      let n : line + 1 + k ≡ line + suc k = omega arith in
      let rest =
      fault-run (λ j. F (suc j)) (λ j. P (suc j)) (λ j. N (suc j)) e k count (from + 1) (line + 1) (omega arith)
      (λ j i. next j i) (rw m g) in
      rw (first, rest, n)
    where
      next : (j : ℕ) → j < k → at (from + 1 + j) (F (suc j)) (P (suc j)) ≡ row (N (suc j)) (F (suc (suc j))) (P (suc (suc j)))
      next j i = let n : from + 1 + j ≡ from + suc j = omega arith in rw n (h (suc j) (omega arith))

-- ---- the end of the text

cond_end : (s : List ℕ) (line f p : ℕ) (t : Bool) → eqb p (length s) ≡ t → (ks : List ℕ) (g q : ℕ) → cond t (rows [] f p) (failed WrongShape line) ≡ rows ks g q → (p ≡ length s) × (ks ≡ [])
cond_end s line f p true e ks g q h = (eqb-true p (length s) e, cc)
cond_end s line f p false e ks g q h = absurd (failed-rows h)

pub end_rows : (s : List ℕ) (line f p : ℕ) (ks : List ℕ) (g q : ℕ) → end_of s line f p ≡ rows ks g q → (p ≡ length s) × (ks ≡ [])
unfolding end_of
end_rows s line f p ks g q h = cond_end s line f p (eqb p (length s)) refl ks g q h

-- lines to the end of the text, or with something behind them, or with a fault
module _ (s : List ℕ) (x : Rows) (line : ℕ) where
  pub to_end : (ns : List ℕ) (f q : ℕ) → x ≡ rows ns f q → q ≡ length s → and_then x (λ g r. end_of s line g r) ≡ rows ns f q
  unfolding and_then behind end_of
  to_end ns f q e h = rw (e, eq-eqb q (length s) h, append-nil ns)

  pub past_end : (ns : List ℕ) (f q : ℕ) → x ≡ rows ns f q → (q ≡ length s → ⊥) → and_then x (λ g r. end_of s line g r) ≡ failed WrongShape line
  unfolding and_then behind end_of
  past_end ns f q e h = rw (e, ne_eqb q (length s) h)

  pub no_end : (e : Fault) (k : ℕ) → x ≡ failed e k → and_then x (λ g r. end_of s line g r) ≡ failed e k
  unfolding and_then
  no_end e k h = rw h
