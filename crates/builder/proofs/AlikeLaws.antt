-- `==` as the code stores it is that of the monitor's definition, for every width: the same three gates a bit, and then the chain of
-- accept, which joins the bits gate for gate. And one turn of the loop over the bits. Assumes nothing.
use mathlib.Core.Path.{◌≡◌, refl, ap}
use mathlib.Core.Bool.{Bool, true, false, not}
use mathlib.Core.List.{List, [], ◌∷◌, map}
use Prim.Native.Nat.{ℕ, zero, suc, ◌+◌, ◌-◌, ◌≤◌, ◌<◌}
use native.Mathlib.Nat.{sub-zero}
use native.Mathlib.Omega.{arith}
use native.Mathlib.Decide.{dec_lt}
use borrow.Author.Tests.{lt-ltb, le-ltb}
use lib.ListN.{length, take, replicate, length-take}
use Rattle.netlist.specs.Literals.{literal_of}
use Rattle.netlist.proofs.LiteralLaws.{variable-literal, inverted-literal}
use Rattle.graph.specs.Reading.{run_of}
use Rattle.circuit.specs.Gates.{lit, inv, gate, Piece, xor_of}
use Rattle.circuit.specs.Build.{and_from, and_all, or_from, or_all, bit_literal, same_bits, alike_of}
use Rattle.builder.specs.declared.gates.Gates.{Gates}
use Rattle.builder.specs.Private.Adding.{Going, Splits}
use Rattle.builder.specs.Private.Terms.{terms_of, accept_of}
use Rattle.builder.specs.Private.Machine.{bit_at, differ_bits, alike_made}
use Rattle.builder.proofs.AddingLaws.{begin}

-- ---- the bits
-- a bit of a signal or of a constant, by its place
bit_at_lem : (m p i : ℕ) → bit_literal m (run_of m p) i ≡ bit_at p i
unfolding bit_literal run_of
bit_at_lem m p i = elim (dec_lt p m) [
  | yes l ↦ let z : 2 + (p + i) ≡ 2 + p + i = omega arith in rw (lt-ltb p m l, z)
  | no l ↦ let z : 2 + m + (p - m + i) ≡ 2 + p + i = omega arith in rw (le-ltb p m (omega arith), z)
]

-- alike where they do not differ
bits_are : (m p q w n i : ℕ) → same_bits m n (run_of m p) (run_of m q) i w ≡ record { gates = (differ_bits n p q i w).gates; outs = map inv (differ_bits n p q i w).outs }
bits_are m p q zero n i = refl
bits_are m p q (suc w) n i = rw (bit_at_lem m p i, bit_at_lem m q i, bits_are m p q w (n + 3) (suc i))

differ-outs : (p q w n i : ℕ) → length (differ_bits n p q i w).outs ≡ w
differ-outs p q zero n i = refl
differ-outs p q (suc w) n i = ap suc (differ-outs p q w (n + 3) (suc i))

-- ---- the joins
-- an AND of inverses is the inverse of an OR chain, gate for gate the same
pub inv_flip : (n : ℕ) (b : Bool) → inv (literal_of n b) ≡ literal_of n (not b)
unfolding inv
inv_flip n b = rw (variable-literal n b, inverted-literal n b)

and_from_lem : (ts : List ℕ) (n so : ℕ) → and_from n (inv so) (map inv ts) ≡ record { gates = (or_from n so ts).gates; out = inv (or_from n so ts).out }
and_from_lem [] n so = refl
and_from_lem (t ∷ ts) n so =
    let h = and_from_lem ts (suc n) (literal_of n true) in
    ap (λ (p : Piece). record { gates = gate (inv so) (inv t) ∷ p.gates; out = p.out }) (rw (inv_flip n true) at h)

pub and_all_lem : (ts : List ℕ) (n : ℕ) → and_all n (map inv ts) ≡ record { gates = (or_all n ts).gates; out = inv (or_all n ts).out }
and_all_lem [] n = rw (inv_flip 0 false)
and_all_lem (t ∷ ts) n = and_from_lem ts n t

-- each literal is a term
terms_all : (ls : List ℕ) (w : ℕ) → length ls ≡ w → terms_of 1 (replicate w 1) ls ≡ ls
terms_all [] zero h = refl
terms_all [] (suc w) h = absurd (omega arith)
terms_all (l ∷ ls) zero h = absurd (omega arith)
terms_all (l ∷ ls) (suc w) h = ap (λ (r : List ℕ). l ∷ r) (terms_all ls w (omega arith))

joins-are : (ls : List ℕ) (n w : ℕ) → length ls ≡ w → accept_of n (replicate w 1) ls ≡ and_all n (map inv ls)
unfolding accept_of
joins-are ls n w h = rw (terms_all ls w h, and_all_lem ls n)

-- THE LAW, over the width
pub alike_made_lem : (m n p q w : ℕ) → alike_made n p q w ≡ alike_of m n (run_of m p) (run_of m q) w
unfolding alike_made alike_of
alike_made_lem m n p q w = rw (bits_are m p q w n 0, joins-are (differ_bits n p q 0 w).outs (n + length (differ_bits n p q 0 w).gates) w (differ-outs p q w n 0))

-- ---- how the code goes: first the bits, and then the chain over as many
take-ones : (w k : ℕ) → w ≤ k → take {A = ℕ} w (replicate k 1) ≡ replicate w 1
take-ones zero k h = refl
take-ones (suc w) zero h = absurd (omega arith)
take-ones (suc w) (suc k) h = ap (λ (l : List ℕ). 1 ∷ l) (take-ones w k (omega arith))

pub room-length : (w x : ℕ) → w ≤ 16 → length (take w (replicate 16 x)) ≡ w
room-length w x h = rw length-take (omega arith)

pub alike-parts : (n p q w next : ℕ) {ks ls : List ℕ} → w ≤ 16 → ks ≡ take w (replicate 16 1) → ls ≡ (differ_bits n p q 0 w).outs → next ≡ n + length (differ_bits n p q 0 w).gates →
    Splits (alike_made n p q w).gates (differ_bits n p q 0 w).gates (accept_of next ks ls).gates
    × ((alike_made n p q w).out ≡ (accept_of next ks ls).out)
unfolding alike_made
alike-parts n p q w next h m e k = (record { is = rw (m, take-ones w 16 h, e, k) }, rw (m, take-ones w 16 h, e, k))

-- ---- the loop over the bits
module _ (p q : ℕ) where
  pub differ_begin : (s : Gates) (w : ℕ) → s.first.0 ≤ s.next.0 → let n = s.next.0 in Going s s (differ_bits n p q 0 w).gates (differ_bits n p q 0 (w - 0)).gates
      × ((differ_bits n p q 0 (w - 0)).outs ≡ (differ_bits n p q 0 w).outs)
  differ_begin s w h = rw sub-zero (begin s (differ_bits s.next.0 p q 0 w).gates h, refl)

  pub differ_step : (n i w next : ℕ) → i < w → next ≡ n + 3 →
      Splits (differ_bits n p q i (w - i)).gates (xor_of n (bit_at p i) (bit_at q i)).gates (differ_bits next p q (i + 1) (w - (i + 1))).gates
      × ((differ_bits n p q i (w - i)).outs ≡ lit (suc (suc n)) ∷ (differ_bits next p q (i + 1) (w - (i + 1))).outs)
  differ_step n i w next h e =
      let k : w - i ≡ suc (w - (i + 1)) = omega arith in
      let j : suc i ≡ i + 1 = omega arith in
      (record { is = rw (k, e, ← j) }, rw (k, e, ← j))

  pub differ_end : (n i w : ℕ) → w ≤ i → ((differ_bits n p q i (w - i)).gates ≡ []) × ((differ_bits n p q i (w - i)).outs ≡ [])
  differ_end n i w h =
      let k : w - i ≡ 0 = omega arith in
      rw k (refl, refl)
