-- The rejected cycles of verdict bytes: counted from 1, rising, all of them and no others; with the number of cycles they
-- tell the bytes. Assumes nothing.
use mathlib.Core.Path.{◌≡◌, refl, ap, ◌∙◌}
use mathlib.Core.List.{List, [], ◌∷◌, ◌++◌}
use Prim.Native.Nat.{ℕ, zero, suc, ◌+◌, ◌-◌, ◌<◌, ◌≤◌}
use native.Mathlib.Omega.{arith}
use native.Mathlib.Decide.{ℕ_discrete}
use borrow.Author.Tests.{eq-eqb, ne_eqb}
use lib.ListN.{length, get_or, take}
use Rattle.session_text.specs.Pages.{rejected_from, rejected_of}
use Rattle.session_text.specs.Claims.{Rejected}

-- ---- one byte at a time, from the front
pub rejected_yes : (k b : ℕ) (v : List ℕ) → b ≡ 1 → rejected_from k (b ∷ v) ≡ k ∷ rejected_from (suc k) v
unfolding rejected_from
rejected_yes k b v e = rw (eq-eqb b 1 e)

pub rejected_no : (k b : ℕ) (v : List ℕ) → (b ≡ 1 → ⊥) → rejected_from k (b ∷ v) ≡ rejected_from (suc k) v
unfolding rejected_from
rejected_no k b v d = rw (ne_eqb b 1 d)

pub rejected-none : (k : ℕ) → rejected_from k [] ≡ []
unfolding rejected_from
rejected-none k = refl

-- at most as many as there are cycles
pub rejected-most : (k : ℕ) (v : List ℕ) → length (rejected_from k v) ≤ length v
rejected-most k [] = rw (rejected-none k) (omega arith)
rejected-most k (b ∷ v) = go (ℕ_discrete b 1) (rejected-most (suc k) v)
  where
    go : Dec (b ≡ 1) → length (rejected_from (suc k) v) ≤ length v → length (rejected_from k (b ∷ v)) ≤ suc (length v)
    go (yes e) ih = rw (rejected_yes k b v e) (omega arith)
    go (no d) ih = rw (rejected_no k b v d) (omega arith)

-- each is one of the cycles k to k + length v - 1, and its byte is 1
record Within (k : ℕ) (v : List ℕ) (c : ℕ) : Type 0 where
  least : k ≤ c
  most : c < k + length v
  byte : get_or v (c - k) 0 ≡ 1

within-next : (k b : ℕ) (v : List ℕ) (c : ℕ) → Within (suc k) v c → Within k (b ∷ v) c
within-next k b v c w =
    let e : c - k ≡ suc (c - suc k) = omega (arith, w.least) in
    record { least = omega (arith, w.least); most = omega (arith, w.most); byte = ap (λ (i : ℕ). get_or (b ∷ v) i 0) e ∙ w.byte }

each_within : (k : ℕ) (v : List ℕ) (j : ℕ) → j < length (rejected_from k v) → Within k v (get_or (rejected_from k v) j 0)
each_within k [] j h = absurd (omega (arith, ap length (rejected-none k)))
each_within k (b ∷ v) j h = go (ℕ_discrete b 1) j h (each_within (suc k) v)
  where
    here : b ≡ 1 → Within k (b ∷ v) k
    here e = let z : k - k ≡ 0 = omega arith in record { least = omega arith; most = omega arith; byte = ap (λ (i : ℕ). get_or (b ∷ v) i 0) z ∙ e }

    go : Dec (b ≡ 1) → (j : ℕ) → j < length (rejected_from k (b ∷ v))
        → ((i : ℕ) → i < length (rejected_from (suc k) v) → Within (suc k) v (get_or (rejected_from (suc k) v) i 0))
        → Within k (b ∷ v) (get_or (rejected_from k (b ∷ v)) j 0)
    go (yes e) zero h ih = rw (rejected_yes k b v e) (here e)
    go (yes e) (suc i) h ih =
        let s = rejected_yes k b v e in
        rw s (within-next k b v (get_or (rejected_from (suc k) v) i 0) (ih i (omega (arith, ap length s, h))))
    go (no d) j h ih =
        let s = rejected_no k b v d in
        rw s (within-next k b v (get_or (rejected_from (suc k) v) j 0) (ih j (omega (arith, ap length s, h))))

each_least : (k : ℕ) (v : List ℕ) (j : ℕ) → j < length (rejected_from k v) → k ≤ get_or (rejected_from k v) j 0
each_least k v j h = (each_within k v j h).least

pub each-most : (k : ℕ) (v : List ℕ) (j : ℕ) → j < length (rejected_from k v) → get_or (rejected_from k v) j 0 < k + length v
each-most k v j h = (each_within k v j h).most

rises : (k : ℕ) (v : List ℕ) (j : ℕ) → suc j < length (rejected_from k v) → get_or (rejected_from k v) j 0 < get_or (rejected_from k v) (suc j) 0
rises k [] j h = absurd (omega (arith, ap length (rejected-none k)))
rises k (b ∷ v) j h = go (ℕ_discrete b 1) j h (rises (suc k) v)
  where
    go : Dec (b ≡ 1) → (j : ℕ) → suc j < length (rejected_from k (b ∷ v))
        → ((i : ℕ) → suc i < length (rejected_from (suc k) v) → get_or (rejected_from (suc k) v) i 0 < get_or (rejected_from (suc k) v) (suc i) 0)
        → get_or (rejected_from k (b ∷ v)) j 0 < get_or (rejected_from k (b ∷ v)) (suc j) 0
    go (yes e) zero h ih = let s = rejected_yes k b v e in rw s (each_least (suc k) v 0 (omega (arith, ap length s, h)))
    go (yes e) (suc i) h ih = let s = rejected_yes k b v e in rw s (ih i (omega (arith, ap length s, h)))
    go (no d) j h ih = let s = rejected_no k b v d in rw s (ih j (omega (arith, ap length s, h)))

-- every cycle whose byte is 1 stands at the place that as many as are before it give
record Placed (k : ℕ) (v : List ℕ) (i place : ℕ) : Type 0 where
  inside : place < length (rejected_from k v)
  there : get_or (rejected_from k v) place 0 ≡ k + i

placed : (k : ℕ) (v : List ℕ) (i : ℕ) → get_or v i 0 ≡ 1 → Placed k v i (length (rejected_from k (take i v)))
placed k [] i h = absurd (omega arith)
placed k (b ∷ v) zero h =
    let s = rejected_yes k b v h in
    rw (rejected-none k) (record { inside = rw s (omega arith); there = rw s (omega arith) })
placed k (b ∷ v) (suc i) h = go (ℕ_discrete b 1) (placed (suc k) v i h)
  where
    go : Dec (b ≡ 1) → Placed (suc k) v i (length (rejected_from (suc k) (take i v))) → Placed k (b ∷ v) (suc i) (length (rejected_from k (b ∷ take i v)))
    go (yes e) p =
        rw (rejected_yes k b (take i v) e) (record { inside = rw (rejected_yes k b v e) (omega (arith, p.inside)); there = rw (rejected_yes k b v e) (omega (arith, p.there)) })
    go (no d) p =
        rw (rejected_no k b (take i v) d) (record { inside = rw (rejected_no k b v d) p.inside; there = rw (rejected_no k b v d) (omega (arith, p.there)) })

pub rejected-are : (v : List ℕ) → Rejected v (rejected_of v)
rejected-are v =
    record {
      rising = rises 1 v;
      from_one = each_least 1 v;
      judged = λ j h. (each_within 1 v j h).byte;
      place = λ k. length (rejected_of (take k v));
      every = λ k h. let p = placed 1 v k h in (p.inside, omega (arith, p.there));
    }

-- ---- one byte at a time, at the end, as a loop takes them
pub rejected_snoc : (k : ℕ) (v : List ℕ) (b : ℕ) → rejected_from k (v ++ (b ∷ [])) ≡ rejected_from k v ++ rejected_from (k + length v) (b ∷ [])
rejected_snoc k [] b = let z : k + 0 ≡ k = omega arith in rw (rejected-none k, z)
rejected_snoc k (c ∷ v) b = go (ℕ_discrete c 1) (rejected_snoc (suc k) v b)
  where
    go : Dec (c ≡ 1) → rejected_from (suc k) (v ++ (b ∷ [])) ≡ rejected_from (suc k) v ++ rejected_from (suc k + length v) (b ∷ [])
        → rejected_from k (c ∷ (v ++ (b ∷ []))) ≡ rejected_from k (c ∷ v) ++ rejected_from (k + suc (length v)) (b ∷ [])
    go (yes e) ih = let z : k + suc (length v) ≡ suc k + length v = omega arith in rw (rejected_yes k c (v ++ (b ∷ [])) e, rejected_yes k c v e, z, ih)
    go (no d) ih = let z : k + suc (length v) ≡ suc k + length v = omega arith in rw (rejected_no k c (v ++ (b ∷ [])) d, rejected_no k c v d, z, ih)
