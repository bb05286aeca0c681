-- Verdict bytes, each by itself and as they are tested one by one. Assumes nothing.
use mathlib.Core.Path.{◌≡◌, refl, ap}
use mathlib.Core.Bool.{Bool, true, false, ◌&&◌}
use mathlib.Core.List.{List, [], ◌∷◌}
use Prim.Native.Nat.{ℕ, zero, suc, ◌+◌, ◌<◌, ◌≤◌}
use native.Mathlib.Numerals.{add-one}
use native.Mathlib.Omega.{arith}
use lib.Dec.{leb}
use lib.ListN.{length, get_or, drop, drop_of_length-le}
use lib.Seq.{drop-cons}
use borrow.Author.Tests.{leb-true, le-leb, lt-leb}
use Rattle.std.specs.List.{list_all}
use Rattle.netlist.proofs.EachLaws.{both}
use Rattle.trace.specs.Verdicts.{all_bits}

-- every byte is a bit, past the end too
pub bits : (v : List ℕ) → all_bits v ≡ true → (k : ℕ) → get_or v k 0 ≤ 1
unfolding all_bits
bits [] e k = omega arith
bits (b ∷ v) e zero = leb-true b 1 (both (leb b 1) (all_bits v) e).0
bits (b ∷ v) e (suc k) = bits v (both (leb b 1) (all_bits v) e).1 k

pub bits_of_all : (v : List ℕ) → ((k : ℕ) → get_or v k 0 ≤ 1) → all_bits v ≡ true
unfolding all_bits
bits_of_all [] h = refl
bits_of_all (b ∷ v) h = rw (le-leb b 1 (h 0), bits_of_all v (λ k. h (suc k)))

-- what is left of the bytes has one above 1 where the whole has
module _ (v : List ℕ) (k : ℕ) where
  pub bits_end : length v ≤ k → all_bits (drop k v) ≡ true
  unfolding all_bits
  bits_end l = rw (drop_of_length-le v l)

  module _ (l : k < length v) where
    pub bits-here : 1 < get_or v k 0 → all_bits (drop k v) ≡ false
    unfolding all_bits
    bits-here h = rw (drop-cons v k 0 l, lt-leb (get_or v k 0) 1 h)

    pub bits-next : get_or v k 0 ≤ 1 → all_bits (drop k v) ≡ all_bits (drop (k + 1) v)
    unfolding all_bits
    bits-next h = rw (add-one k, drop-cons v k 0 l, le-leb (get_or v k 0) 1 h)

-- a test of each byte
pub bits_list : (v : List ℕ) → list_all (λ b. leb b 1) v ≡ all_bits v
unfolding all_bits
bits_list [] = refl
bits_list (b ∷ v) = ap (λ (t : Bool). leb b 1 && t) (bits_list v)
