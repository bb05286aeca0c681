-- Where each gate of `==` stands, for every width: "3 gates a bit, bit 0 first, made as for `=`, then width − 1 more that join them in
-- bit order". Assumes nothing.
use Prim.Native.Nat.{ℕ, zero, suc, ◌+◌, ◌*◌, ◌<◌}
use mathlib.Core.Path.{◌≡◌, refl, ap, ap₂, subst, ◌∙◌}
use mathlib.Core.List.{List, ◌++◌}
use native.Mathlib.Omega.{arith}
use lib.ListN.{length, get_or, get_or-append}
use lib.Seq.{get_or-append-add}
use Rattle.assertion.specs.Graph.{Run, operators}
use Rattle.circuit.specs.Gates.{lit, inv, Gate, gate, Piece}
use Rattle.circuit.specs.Build.{and_all, Bits, bit_literal, same_bits, alike_of, formula}
use Rattle.circuit.specs.Count.{formula_gates}
use Rattle.circuit.specs.Claims.{gate_at, same_at, AlikeGates, AlikeMeans}
use Rattle.circuit.proofs.Count.{bits-length, alike-length}
use Rattle.circuit.proofs.Joins.{all_first, all-next, all-out, all_one, and_chain}

-- ---- the gates of the bits
module _ (s : ℕ) (a b : Run) where
  abbrev Three : List Gate → ℕ → ℕ → ℕ → Type 0
  Three xs k m i =
      (gate_at xs k ≡ gate (bit_literal s a i) (bit_literal s b i))
      × (gate_at xs (suc k) ≡ gate (inv (bit_literal s a i)) (inv (bit_literal s b i)))
      × (gate_at xs (suc (suc k)) ≡ gate (inv (lit m)) (inv (lit (suc m))))

  moved : (xs : List Gate) (k k₁ m m₁ i i₁ : ℕ) → k ≡ k₁ → m ≡ m₁ → i ≡ i₁ → Three xs k m i → Three xs k₁ m₁ i₁
  moved xs k k₁ m m₁ i i₁ d e f t =
      subst (λ (x : ℕ). Three xs x m₁ i₁) d (subst (λ (x : ℕ). Three xs k x i₁) e (subst (λ (x : ℕ). Three xs k m x) f t))

  bits_at : (w n i k : ℕ) → k < w → Three (same_bits s n a b i w).gates (3 * k) (n + 3 * k) (i + k)
  bits_at zero n i k l = absurd (omega arith)
  bits_at (suc w) n i zero l =
      moved (same_bits s n a b i (suc w)).gates 0 (3 * 0) n (n + 3 * 0) i (i + 0) refl (omega arith) (omega arith) (refl, refl, refl)
  bits_at (suc w) n i (suc k) l =
      moved (same_bits s n a b i (suc w)).gates (suc (suc (suc (3 * k)))) (3 * suc k) (n + 3 + 3 * k) (n + 3 * suc k) (suc i + k) (i + suc k)
      (omega arith) (omega arith) (omega arith) (bits_at w (n + 3) (suc i) k (omega arith))

  outs-at : (w n i k : ℕ) → k < w → get_or (same_bits s n a b i w).outs k 0 ≡ same_at n k
  outs-at zero n i k l = absurd (omega arith)
  outs-at (suc w) n i zero l = ap (λ (x : ℕ). inv (lit x)) (omega arith)
  outs-at (suc w) n i (suc k) l = outs-at w (n + 3) (suc i) k (omega arith) ∙ ap (λ (x : ℕ). inv (lit x)) (omega arith)

-- ---- both
module _ (s n : ℕ) (a b : Run) (w : ℕ) where
  abbrev bits : Bits
  bits = same_bits s n a b 0 w

  abbrev m : ℕ
  m = n + length bits.gates

  abbrev joined : Piece
  joined = and_all m bits.outs

  abbrev xs : List Gate
  xs = bits.gates ++ joined.gates

  many : (length bits.gates ≡ 3 * w) × (length bits.outs ≡ w)
  many = bits-length w s n 0 a b

  -- before the joins, and among them
  early : (k : ℕ) → k < 3 * w → gate_at xs k ≡ gate_at bits.gates k
  early k l = get_or-append bits.gates joined.gates (gate 0 0) k (omega (arith, many.0))

  late : (j : ℕ) → gate_at xs (3 * w + j) ≡ gate_at joined.gates j
  late j = subst (λ (x : ℕ). gate_at xs (x + j) ≡ gate_at joined.gates j) many.0 (get_or-append-add bits.gates joined.gates j (gate 0 0))

  three : (i : ℕ) → i < w → Three s a b bits.gates (3 * i) (n + 3 * i) i
  three i l = moved s a b bits.gates (3 * i) (3 * i) (n + 3 * i) (n + 3 * i) (0 + i) i refl refl (omega arith) (bits_at s a b w n 0 i l)

  out_at : (i : ℕ) → i < w → get_or bits.outs i 0 ≡ same_at n i
  out_at i l = outs-at s a b w n 0 i l

  variable : (j : ℕ) → m + j ≡ n + 3 * w + j
  variable j = omega (arith, many.0)

  pub alike-gates : AlikeGates s n a b w (alike_of s n a b w)
  unfolding alike_of
  alike-gates =
      record {
        count = alike-length s n a b w;
        both = λ i l. early (3 * i) (omega arith) ∙ (three i l).0;
        neither = λ i l. subst (λ (x : ℕ). gate_at xs x ≡ gate (inv (bit_literal s a i)) (inv (bit_literal s b i))) (omega arith) (early (suc (3 * i)) (omega arith) ∙ (three i l).1);
        differ = λ i l.
            subst (λ (x : ℕ). gate_at xs x ≡ gate (inv (lit (n + 3 * i))) (inv (lit (n + 3 * i + 1)))) (omega arith) (
            early (suc (suc (3 * i))) (omega arith) ∙ (three i l).2 ∙ ap (λ (x : ℕ). gate (inv (lit (n + 3 * i))) (inv (lit x))) (omega arith)
            );
        first-join = λ l.
            subst (λ (x : ℕ). gate_at xs x ≡ gate (same_at n 0) (same_at n 1)) (omega arith) (
            late 0 ∙ all_first gate lit and_all and_chain bits.outs m (omega (arith, many.1)) ∙ ap₂ gate (out_at 0 (omega arith)) (out_at 1 (omega arith))
            );
        next-join = λ j l.
            subst (λ (x : ℕ). gate_at xs (3 * w + x) ≡ gate (lit (n + 3 * w + j)) (same_at n (j + 2))) (omega arith) (
            late (suc j) ∙ all-next gate lit and_all and_chain bits.outs m j (omega (arith, many.1))
            ∙ ap₂ gate (ap lit (variable j)) (out_at (suc (suc j)) (omega arith) ∙ ap (same_at n) (omega arith))
            );
        last = λ l. all-out gate lit and_all and_chain bits.outs m (omega (arith, many.1)) ∙ ap lit (omega (arith, many.0, many.1));
        alone = λ e. all_one gate lit and_all and_chain bits.outs m (many.1 ∙ e) ∙ out_at 0 (omega arith);
      }

-- THE LAW
pub alike-means : AlikeMeans
unfolding formula bit_literal formula_gates operators
alike-means = record { gates = alike-gates; costs = λ a b w. refl; counts = λ a b w. refl; signal_bit = λ s n j i. refl; constant-bit = λ s n j i. refl }
