-- A run byte by byte, and how large its number can be. Assumes nothing.
use Rattle.std.specs.Prelude.{Option, Some, None}
use mathlib.Core.Path.{◌≡◌, refl, sym, ap, ◌∙◌}
use mathlib.Core.Bool.{Bool, true, false, and-false}
use mathlib.Core.List.{List}
use Prim.Native.Nat.{ℕ, zero, suc, ◌+◌, ◌-◌, ◌*◌, ◌≤◌, ◌<◌}
use native.Mathlib.Omega.{arith}
use borrow.Author.Tests.{lt-ltb, le-ltb, eq-eqb, ne_eqb}
use lib.Dec.{eqb}
use lib.ListN.{length, get_or}
use Rattle.packed_read.specs.Runs.{took, broken, last, more, bytes_at}
use Rattle.packed_read.specs.Private.Steps.{run_in, top, Below}

-- ---- a last byte

module _ (b q : ℕ) where
  pub last-only : took b q ≡ last true b q
  unfolding last
  last-only = rw (and-false (eqb b 0))

  pub last_none : b ≡ 0 → broken ≡ last false b q
  unfolding last
  last_none h = rw (eq-eqb b 0 h)

  pub last_some : (b ≡ 0 → ⊥) → took b q ≡ last false b q
  unfolding last
  last_some h = rw (ne_eqb b 0 h)

-- ---- the bytes from p on

module _ (first : Bool) (s : List ℕ) (p : ℕ) where
  pub bytes_end : (k : ℕ) → length s ≤ p → bytes_at k first s p ≡ broken
  unfolding bytes_at
  bytes_end zero h = rw (le-ltb p (length s) h)
  bytes_end (suc k) h = rw (bytes_at, le-ltb p (length s) h)

  module _ (inside : p < length s) where
    pub bytes-last : (k : ℕ) → get_or s p 0 < 128 → bytes_at k first s p ≡ last first (get_or s p 0) (p + 1)
    unfolding bytes_at
    bytes-last zero h = rw (lt-ltb p (length s) inside, lt-ltb (get_or s p 0) 128 h)
    bytes-last (suc k) h = rw (bytes_at, lt-ltb p (length s) inside, lt-ltb (get_or s p 0) 128 h)

    pub bytes_over : 128 ≤ get_or s p 0 → bytes_at 0 first s p ≡ broken
    unfolding bytes_at
    bytes_over h = rw (lt-ltb p (length s) inside, le-ltb (get_or s p 0) 128 h)

    pub bytes-more : (k : ℕ) → 128 ≤ get_or s p 0 → bytes_at (suc k) first s p ≡ more (get_or s p 0) (bytes_at k false s (p + 1))
    unfolding bytes_at
    bytes-more k h = rw (bytes_at, lt-ltb p (length s) inside, le-ltb (get_or s p 0) 128 h)

-- ---- a byte before others

pub more-took : (b v q : ℕ) (r : Option (ℕ × ℕ)) → r ≡ Some (v, q) → run_in (Some ((b - 128) + 128 * v, q)) ≡ more b (run_in r)
unfolding run_in more
more-took b v q r h = rw h

pub more-broken : (b : ℕ) (r : Option (ℕ × ℕ)) → r ≡ None → run_in None ≡ more b (run_in r)
unfolding run_in more
more-broken b r h = rw h

-- a bound on a run that was read
pub below-took : {n v q : ℕ} {r : Option (ℕ × ℕ)} → Below n r → r ≡ Some (v, q) → v < n
unfolding Below
below-took h e = rw e at h

pub below_more : (n m : ℕ) (r : Option (ℕ × ℕ)) → Below n r → n ≤ m → Below m r
unfolding Below
below_more n m (Some (v, q)) h l = omega arith
below_more n m None h l = tt

-- what one byte holds, and two
pub tops : (k : ℕ) → 128 ≤ top k
tops zero = omega arith
tops (suc k) = let i = tops k in omega arith

pub two-more : (k : ℕ) → k ≤ 1 → top k ≤ 16384
two-more zero h = omega arith
two-more (suc zero) h = omega arith
two-more (suc (suc k)) h = absurd (omega arith)

below-run : (n b : ℕ) (r rest : Option (ℕ × ℕ)) → b < 256 → run_in r ≡ more b (run_in rest) → Below n rest → Below (128 * n) r
unfolding Below run_in more
below-run n b (Some (v, q)) (Some (w, z)) h e l =
    let f : v ≡ (b - 128) + 128 * w = cc in
    omega arith
below-run n b (Some (v, q)) None h e l = absurd (let z : ◌≡◌ {A = ℕ} 0 1 = cc in omega arith)
below-run n b None rest h e l = tt

-- ---- what is read of them

module _ (left : ℕ) (first : Bool) (s : List ℕ) (p : ℕ) where
  abbrev Reads : Option (ℕ × ℕ) → Type 0
  Reads r = (run_in r ≡ bytes_at left first s p) × Below (top left) r

  pub at_end : length s ≤ p → Reads None
  unfolding run_in Below
  at_end h = (sym (bytes_end first s p left h), tt)

  module _ (inside : p < length s) (b : ℕ) (is : b ≡ get_or s p 0) where
    pub at_last : (r : Option (ℕ × ℕ)) → b < 128 → run_in r ≡ last first b (p + 1) → Below 128 r → Reads r
    at_last r h e l = (e ∙ ap (λ (x : ℕ). last first x (p + 1)) is ∙ sym (bytes-last first s p inside left (omega arith)), below_more 128 (top left) r l (tops left))

    pub at_over : 128 ≤ b → left ≡ 0 → Reads None
    unfolding run_in Below
    at_over h z = rw z (sym (bytes_over first s p inside (omega arith)), tt)

    pub at_more : (r rest : Option (ℕ × ℕ)) → 128 ≤ b → b < 256 → (left ≡ 0 → ⊥)
        → run_in r ≡ more b (run_in rest) → run_in rest ≡ bytes_at (left - 1) false s (p + 1) → Below (top (left - 1)) rest → Reads r
    at_more r rest h g n e f l = go left refl
      where
        go : (k : ℕ) → left ≡ k → (run_in r ≡ bytes_at k first s p) × Below (top k) r
        go zero z = absurd (n z)
        go (suc k) z =
            let d : left - 1 ≡ k = omega arith in
            let c : bytes_at (suc k) first s p ≡ more b (bytes_at k false s (p + 1)) = rw is (bytes-more first s p inside k (omega arith)) in
            (e ∙ ap (more b) (rw d at f) ∙ sym c, below-run (top k) b r rest g e (rw d at l))
