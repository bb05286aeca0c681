-- Pieces of a text: one after another, all of one width, and by what stands before them. Assumes nothing.
use mathlib.Core.Path.{◌≡◌, refl, ap, ◌∙◌}
use mathlib.Core.List.{List, [], ◌++◌, append_assoc, append-nil}
use Prim.Native.Nat.{ℕ, zero, suc, ◌+◌, ◌*◌, ◌<◌}
use native.Mathlib.Omega.{arith}
use native.Mathlib.Decide.{dec_lt}
use lib.ListN.{length, take, drop, length-append}
use lib.Seq.{take_at, drop_at}
use Rattle.text.specs.Writer.{joined}

-- ---- a piece of a text, by what stands before it
pub piece_at_lem : (pre field post : List ℕ) (at count : ℕ) → length pre ≡ at → length field ≡ count → take count (drop at (pre ++ (field ++ post))) ≡ field
piece_at_lem pre field post at count p w = ap (take count) (drop_at pre (field ++ post) at p) ∙ take_at field post count w

-- ---- pieces of one width
module _ (width : ℕ) (f : ℕ → List ℕ) (wide : (i : ℕ) → length (f i) ≡ width) where
  pub joined_length : (n : ℕ) → length (joined f n) ≡ n * width
  joined_length zero = omega arith
  joined_length (suc n) =
      let m : suc n * width ≡ n * width + width = omega arith in
      omega (arith, joined_length n, length-append (joined f n) (f n), wide n, m)

-- what stands before and behind piece i
pub record Split (f : ℕ → List ℕ) (n i : ℕ) : Type 0 where
  pub behind : List ℕ
  pub is : joined f n ≡ joined f i ++ (f i ++ behind)

pub split : (f : ℕ → List ℕ) (n i : ℕ) → i < n → Split f n i
split f zero i h = absurd (omega arith)
split f (suc n) i h = go (dec_lt i n) (split f n i)
  where
    go : Dec (i < n) → (i < n → Split f n i) → Split f (suc n) i
    go (yes l) ih =
        let s = ih l in
        record {
          behind = s.behind ++ f n;
          is = ap (λ (t : List ℕ). t ++ f n) s.is ∙ append_assoc (joined f i) (f i ++ s.behind) (f n) ∙ ap (λ (t : List ℕ). joined f i ++ t) (append_assoc (f i) s.behind (f n));
        }
    go (no l) ih =
        let e : i ≡ n = omega (arith, h, l) in
        record { behind = []; is = rw (e, append-nil) refl }
